use Rattle.hg_run_table.proofs.AnswersAre.{answers_are_the_calls as law}
use Rattle.hg_run_table.proofs.laws.answers_are_the_calls.Goals as goal

pub returns : goal.returns
returns c = law
