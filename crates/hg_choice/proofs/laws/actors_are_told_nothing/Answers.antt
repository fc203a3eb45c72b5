use Rattle.hg_choice.proofs.WordLemmas.{actors_are_told_nothing as law}
use Rattle.hg_choice.proofs.laws.actors_are_told_nothing.Goals as goal

pub returns : goal.returns
returns c = law
