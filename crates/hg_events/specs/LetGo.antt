-- An Abandon: a segment leaves a worker's heap, and stands behind the other orphans.
use Rattle.std.specs.Prelude.{◌≡◌, ℕ, ◌<◌, [], ◌∷◌, ◌++◌, length, Some, None, slice_set}
use Rattle.hg_place.specs.declared.plain.PlainWords.{PlainWords}
use Rattle.hg_segment.specs.Kept.{Kept}
use Rattle.hg_segment.specs.Parted.{plain_number}
use Rattle.hg_pool.specs.Pooled.{IsPooled}
use Rattle.hg_heap.specs.Held.{Held, segment_in}
use Rattle.hg_heap.specs.Releasing.{without_segment, without_pages}
use Rattle.hg_machine.specs.declared.Event.TheVariants as event
use Rattle.hg_machine.specs.declared.Answer.TheVariants as answer
use Rattle.hg_machine.specs.Steps.{Step}
use Rattle.hg_agreement.specs.Parts.{state_of}
use Rattle.hg_parts.specs.Tidy.{IsTidy}
use Rattle.hg_events.specs.Core.{Core, parts_of, heap_of}

-- a heap that the segment has left, with its pages
abbrev pub without : Held PlainWords → ℕ → Held PlainWords
without held segment = record {
  segments = without_segment plain_number held.segments segment;
  queues = without_pages segment held.queues;
}

-- the core with that heap for the worker, and this one behind the other orphans
abbrev pub let_go : Core → ℕ → ℕ → Kept PlainWords → Core
let_go core worker segment one = record core {
  heaps = slice_set core.heaps worker (without (heap_of core worker) segment);
  pool = record core.pool { orphans = core.pool.orphans ++ one ∷ [] };
}

-- the worker's heap has this one of that number
abbrev pub IsHeldBy : Core → ℕ → ℕ → Kept PlainWords → Type 0
IsHeldBy core worker segment one =
    segment_in plain_number (heap_of core worker).segments segment ≡ Some one

-- what a heap has, the pool doesn't have: it takes it
abbrev pub HeldIsUnpooled : Type 0
HeldIsUnpooled =
    (core : Core) (worker segment : ℕ) (one : Kept PlainWords) → IsTidy (parts_of core)
    → IsHeldBy core worker segment one
    → ¬ IsPooled plain_number core.pool (plain_number one.slots)

-- once the segment has left the heap, and is the last orphan, that was an Abandon
abbrev pub AbandonIsServed : Type 0
AbandonIsServed =
    (core : Core) (worker segment : ℕ) (one : Kept PlainWords) → IsTidy (parts_of core)
    → worker < length core.heaps → IsHeldBy core worker segment one
    → Step (state_of (parts_of core)) worker (event.Abandon segment) answer.Done
    (state_of (parts_of (let_go core worker segment one)))
    × IsTidy (parts_of (let_go core worker segment one))

-- and where the heap hasn't it, it is refused
abbrev pub AbandonIsRefused : Type 0
AbandonIsRefused =
    (core : Core) (worker segment : ℕ) → IsTidy (parts_of core) → worker < length core.heaps
    → segment_in plain_number (heap_of core worker).segments segment ≡ None
    → Step (state_of (parts_of core)) worker (event.Abandon segment) answer.NotHeld
    (state_of (parts_of core))
