use Rattle.hg_parts.proofs.Sorted.{tidy_pooled as law}
use Rattle.hg_parts.proofs.laws.tidy_parts_are_pooled.Goals as goal

pub returns : goal.returns
returns c = law
