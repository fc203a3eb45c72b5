use Rattle.std.proofs.Common.{refl}
use Rattle.bitflags.proofs.OnLiterals.{bitflags_on_literals}
use Rattle.hg_policy.proofs.rights.Rights.each.Goals as goal

pub returns : goal.returns
unfolding bitflags_on_literals
returns c = rw c.all.ensures refl
