-- What a worker's charges rest on.
use Rattle.std.specs.Prelude.{ℕ, List, Contains, map}
use Rattle.hg_lists.specs.Repeats.{HasNoRepeats}
use Rattle.hg_heap.specs.Settled.{IsSettled}
use Rattle.hg_segment.specs.Kept.{Kept}
use Rattle.hg_table.specs.declared.segment.UnnamedSegment.{UnnamedSegment}
use Rattle.hg_worker.specs.Seats.{number_in, records_in}

-- each segment is as it promises, and no two have one number
pub record AreKept (segments : List (Kept UnnamedSegment)) : Type 0 where
  pub each : (k : Kept UnnamedSegment) → Contains segments k → IsSettled records_in k
  pub once : HasNoRepeats (map (λ k. number_in k.slots) segments)
