use Rattle.hg_machine.proofs.Unforbidden.{forbidden_is_denied as law}
use Rattle.hg_machine.proofs.laws.forbidden_is_denied.Goals as goal

pub returns : goal.returns
returns c = law
