-- What a Refill is in a core: the pool's next segment of an arena comes to a worker's heap.
use Rattle.std.specs.Prelude.{◌≡◌, ℕ, ◌<◌, false, [], ◌∷◌, ◌++◌, length, map, slice_set, Some, None}
use Rattle.hg_lists.specs.Repeats.{HasNoRepeats}
use Rattle.hg_place.specs.declared.plain.PlainWords.{PlainWords}
use Rattle.hg_queue.specs.declared.page_queues.TheConstants.{ARENAS}
use Rattle.hg_segment.specs.Kept.{Kept}
use Rattle.hg_segment.specs.Parted.{plain_number}
use Rattle.hg_pool.specs.Pooled.{Pooled, next_in, without_segment}
use Rattle.hg_heap.specs.Held.{Held, is_held}
use Rattle.hg_machine.specs.declared.Event.TheVariants as event
use Rattle.hg_machine.specs.declared.Answer.TheVariants as answer
use Rattle.hg_machine.specs.SoundPolicy.{IsSoundPolicy}
use Rattle.hg_machine.specs.Steps.{Step}
use Rattle.hg_agreement.specs.Parts.{state_of}
use Rattle.hg_parts.specs.Tidy.{IsTidy}
use Rattle.hg_events.specs.Core.{Core, parts_of, heap_of}

-- the core with this heap for the worker, and with this pool
abbrev pub with_refill : Core → ℕ → Held PlainWords → Pooled PlainWords → Core
with_refill core worker held pool =
    record core { heaps = slice_set core.heaps worker held; pool = pool }

-- the segment is the pool's next of the arena; the pool has it no more; the heap that comes in
-- place of the worker's has it behind the others, and no number twice
pub record IsRefill (core : Core) (worker arena : ℕ) (one : Kept PlainWords)
    (held : Held PlainWords) (pool : Pooled PlainWords) : Type 0 where
  pub next : next_in core.pool arena ≡ Some one
  pub left : pool ≡ without_segment plain_number core.pool (plain_number one.slots)
  pub came : held.segments ≡ (heap_of core worker).segments ++ one ∷ []
  pub once : HasNoRepeats (map (λ k. plain_number k.slots) held.segments)

-- that is a Refill, answered by the segment's number, and the core stays tidy
abbrev pub RefillIsServed : Type 0
RefillIsServed =
    (core : Core) (worker arena : ℕ) (one : Kept PlainWords) (held : Held PlainWords)
    (pool : Pooled PlainWords) → IsTidy (parts_of core) → worker < length core.heaps
    → IsRefill core worker arena one held pool
    → Step (state_of (parts_of core)) worker (event.Refill arena)
    (answer.Refilled (plain_number one.slots))
    (state_of (parts_of (with_refill core worker held pool)))
    × IsTidy (parts_of (with_refill core worker held pool))

-- where the pool has none of the arena, a Refill is refused, and nothing changes
abbrev pub NoRefillIsRefused : Type 0
NoRefillIsRefused =
    (core : Core) (worker arena : ℕ) → IsTidy (parts_of core) → next_in core.pool arena ≡ None
    → Step (state_of (parts_of core)) worker (event.Refill arena) answer.NoSegment
    (state_of (parts_of core))

-- what the pool gives, the worker's heap may adopt: it doesn't hold that segment, whose arena is
-- one that there may be
abbrev pub NextMayBeAdopted : Type 0
NextMayBeAdopted =
    (core : Core) (worker arena : ℕ) (one : Kept PlainWords) → IsSoundPolicy core.policy
    → IsTidy (parts_of core) → worker < length core.heaps → next_in core.pool arena ≡ Some one
    → (is_held plain_number (heap_of core worker).segments (plain_number one.slots) ≡ false)
    × (one.arena < ARENAS)
