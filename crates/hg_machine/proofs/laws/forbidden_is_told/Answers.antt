use Rattle.hg_machine.proofs.Unforbidden.{forbidden_is_told as law}
use Rattle.hg_machine.proofs.laws.forbidden_is_told.Goals as goal

pub returns : goal.returns
returns c = law
