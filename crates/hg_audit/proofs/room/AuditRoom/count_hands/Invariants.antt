use Rattle.std.proofs.Common.{take}
use Rattle.std.specs.Box.{boxed_slice_items}
use Rattle.hg_audit.specs.Handed.{hands_in}
use Rattle.hg_audit.specs.HandCounts.{AreHandCounts}
use Rattle.hg_audit.proofs.room.AuditRoom.count_hands.Given as goal

abbrev pub invariant-loop-hand : goal.invariant-loop-hand
invariant-loop-hand l =
    AreHandCounts (hands_in (take l.hand-index l.hands)) l.fn.self.segments
    (boxed_slice_items l.counts)
