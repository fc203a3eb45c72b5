use Rattle.hg_run_table.proofs.AnswersAre.{looks_may_answer as law}
use Rattle.hg_run_table.proofs.laws.looks_may_answer.Goals as goal

pub returns : goal.returns
returns c = law
