use Rattle.hg_parts.proofs.Sorted.{tidy_sorted as law}
use Rattle.hg_parts.proofs.laws.tidy_parts_are_sorted.Goals as goal

pub returns : goal.returns
returns c = law
