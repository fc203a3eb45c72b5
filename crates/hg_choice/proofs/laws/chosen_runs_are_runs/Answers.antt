use Rattle.hg_choice.proofs.ChoiceLemmas.{chosen_runs_are_runs as law}
use Rattle.hg_choice.proofs.laws.chosen_runs_are_runs.Goals as goal

pub returns : goal.returns
returns c = law
