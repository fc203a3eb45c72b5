use Rattle.hg_run_table.proofs.AnswersAre.{ties_may_answer as law}
use Rattle.hg_run_table.proofs.laws.ties_may_answer.Goals as goal

pub returns : goal.returns
returns c = law
