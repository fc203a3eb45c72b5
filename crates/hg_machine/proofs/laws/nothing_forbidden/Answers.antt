use Rattle.hg_machine.proofs.Unforbidden.{nothing_forbidden as law}
use Rattle.hg_machine.proofs.laws.nothing_forbidden.Goals as goal

pub returns : goal.returns
returns c = law
