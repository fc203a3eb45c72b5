use Rattle.std.proofs.Common.{◌+◌, subst, sym, take}
use Rattle.std.specs.Box.{boxed_slice_items}
use Rattle.hg_audit.specs.Handed.{hands_in}
use Rattle.hg_audit.specs.HandCounts.{AreHandCounts}
use Rattle.hg_audit.proofs.HandsCounted.{next_counted}
use Rattle.hg_audit.proofs.room.AuditRoom.count_hands.Goals as goal

pub loop-hand-preserved : goal.loop-hand-preserved
loop-hand-preserved c =
    subst (AreHandCounts (hands_in (take (c.loop-hand.hand-index + 1) c.args.hands.now))
    c.args.self.segments) (sym c.count_hand.ensures)
    (next_counted c.args.hands.now c.loop-hand.hand-index c.hand-item.result c.args.self.segments
    (boxed_slice_items c.loop-hand.counts) c.loop-hand-test.true c.hand-item.is
    c.loop-hand.invariant)
