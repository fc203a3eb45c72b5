-- What keeps parts tidy while segments come to stand elsewhere.
use Rattle.std.specs.Prelude.{◌≡◌, ℕ, List, length, count_by}
use Rattle.hg_lists.specs.Repeats.{HasNoRepeats}
use Rattle.hg_agreement.specs.LeftPut.{numbers}
use Rattle.hg_agreement.specs.Moves.{with_orphan, IsLetGo}
use Rattle.hg_agreement.specs.Parts.{Plain, Parts, plain_of}
use Rattle.hg_agreement.specs.Pool.{IsRising, with_adopted, IsTakenUp}
use Rattle.hg_parts.specs.Rights.{is_numbered, segments_in}
use Rattle.hg_parts.specs.Tidy.{IsTidy}

-- the parts with these segments in heaps and pool
abbrev pub moved : Parts → List (List Plain) → List Plain → List Plain → Parts
moved parts heaps orphans unused =
    record parts { heaps = heaps; orphans = orphans; fresh = unused }

-- each is there as often as before, and none has changed
abbrev pub MovedIsTidy : Type 0
MovedIsTidy =
    (parts : Parts) (heaps : List (List Plain)) (orphans unused : List Plain) → IsTidy parts
    → length heaps ≡ length parts.heaps
    → ((segment : ℕ)
    → count_by (is_numbered segment) (segments_in (moved parts heaps orphans unused))
    ≡ count_by (is_numbered segment) (segments_in parts))
    → ((segment : ℕ) → plain_of (moved parts heaps orphans unused) segment ≡ plain_of parts segment)
    → IsRising 0 (numbers unused)
    → IsTidy (moved parts heaps orphans unused)

-- a segment is let go, and the heap that it leaves has none twice: an Abandon
abbrev pub LetGoIsTidy : Type 0
LetGoIsTidy =
    (parts : Parts) (worker : ℕ) (heap : List Plain) (one : Plain) → IsTidy parts
    → IsLetGo parts worker heap one → HasNoRepeats (numbers heap)
    → IsTidy (with_orphan parts worker heap one)

-- one of the pool is taken up, by a heap that has none twice: a Refill
abbrev pub TakenUpIsTidy : Type 0
TakenUpIsTidy =
    (parts : Parts) (worker : ℕ) (heap : List Plain) (one : Plain) → IsTidy parts
    → IsTakenUp parts worker heap one → HasNoRepeats (numbers heap)
    → IsTidy (with_adopted parts worker heap one.holding.number)
