use Rattle.hg_bank.proofs.ToldLemmas.{actors_are_told_nothing as law}
use Rattle.hg_bank.proofs.laws.actors_are_told_nothing.Goals as goal

pub returns : goal.returns
returns c = law
