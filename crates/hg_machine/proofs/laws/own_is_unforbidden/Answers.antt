use Rattle.hg_machine.proofs.Unforbidden.{own_is_unforbidden as law}
use Rattle.hg_machine.proofs.laws.own_is_unforbidden.Goals as goal

pub returns : goal.returns
returns c = law
