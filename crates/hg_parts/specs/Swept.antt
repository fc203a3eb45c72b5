-- What keeps parts tidy while a worker's idle pages lose their class.
use Rattle.std.specs.Prelude.{ℕ, ◌<◌, List, length, All}
use Rattle.hg_agreement.specs.Parts.{Plain, Parts, heap_at}
use Rattle.hg_agreement.specs.Swept.{AreSwept, with_heap}
use Rattle.hg_parts.specs.Rights.{IsSegmentRight}
use Rattle.hg_parts.specs.Tidy.{IsTidy}

-- all segments of a heap are swept: a Collect
abbrev pub SweptIsTidy : Type 0
SweptIsTidy =
    (parts : Parts) (worker : ℕ) (heap : List Plain) → IsTidy parts
    → worker < length parts.heaps → AreSwept (heap_at parts worker) heap
    → All (IsSegmentRight parts.policy) heap
    → IsTidy (with_heap parts worker heap)
