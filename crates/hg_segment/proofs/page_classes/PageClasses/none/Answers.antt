use Rattle.std.proofs.Common.{arith, refl, rules}
use Rattle.hg_segment.proofs.MarkedLemmas.{none_marked}
use Rattle.hg_segment.proofs.page_classes.PageClasses.none.Goals as goal

pub invariant_of-result : goal.invariant_of-result
invariant_of-result c = none_marked _ (search rules) (search rules)
