use Rattle.hg_segment.proofs.KeptBlocks.{first_page}
use Rattle.hg_segment.proofs.Empties.{right_new, lists_new}
use Rattle.hg_segment.proofs.segment.Segment.new.Goals as goal

pub invariant_of-result : goal.invariant_of-result
invariant_of-result g c = right_new _ _ _ _ _ _ c.in_ok-pages.ensures.all c.in_ok-classes.ensures.all c.in_ok-charges.ensures.all c.in_ok-memory.ensures.all
    c.in_ok-pages.ensures.empty c.in_ok-classes.ensures.none c.in_ok-charges.ensures.none c.requires.home

pub returns-clause-lists : goal.returns-clause-lists
returns-clause-lists g c = lists_new _ _ (first_page _ c.in_ok-pages.ensures.all) c.in_ok-pages.ensures.all c.in_ok-pages.ensures.empty
