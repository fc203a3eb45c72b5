use Rattle.hg_choice.proofs.SecondRuns.{second_runs_are as law}
use Rattle.hg_choice.proofs.laws.second_runs_are.Goals as goal

pub returns : goal.returns
returns c = law
