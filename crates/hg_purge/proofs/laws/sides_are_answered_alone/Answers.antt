use Rattle.hg_purge.proofs.Purges.{sides_are_answered_alone as law}
use Rattle.hg_purge.proofs.laws.sides_are_answered_alone.Goals as goal

pub returns : goal.returns
returns c = law
