use Rattle.hg_service.proofs.Opened.{unsent_more}
use Rattle.hg_service.proofs.opening.unsent_lists.Goals as goal

pub loop-segment-preserved : goal.loop-segment-preserved
loop-segment-preserved g c =
    unsent_more c.loop-segment.segment _ _ c.in_ok-new.field-0 c.in_ok-push.ensures.items
    c.loop-segment.invariant c.in_ok-new.ensures.segment c.in_ok-new.ensures.list
