use Rattle.std.proofs.Common.{◌≡◌, ◌<◌, ℕ, false}
use Rattle.hg_place.specs.Standings.{standing_at}
use Rattle.hg_segment.specs.Kept.{slot}
use Rattle.hg_segment.specs.Right.{is_vacant}
use Rattle.hg_segment.proofs.segment.Segment.has_vacant.Given as goal

abbrev pub invariant-loop-index : goal.invariant-loop-index
invariant-loop-index g l = (index : ℕ) → index < l.index
    → is_vacant l.self.greatest (standing_at (g.S.SlotWords.records l.self.slots) (slot l.fn.page index)) ≡ false
