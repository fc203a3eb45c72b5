use Rattle.hg_machine.proofs.Unforbidden.{unforbidden_is_granted as law}
use Rattle.hg_machine.proofs.laws.unforbidden_is_granted.Goals as goal

pub returns : goal.returns
returns c = law
