use Rattle.hg_bank.proofs.LawLemmas.{steps_are_determined as law}
use Rattle.hg_bank.proofs.laws.steps_are_determined.Goals as goal

pub returns : goal.returns
returns c = law
