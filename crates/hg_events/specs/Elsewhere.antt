-- Blocks of segments that the worker doesn't hold: another worker does, or nobody.
use Rattle.std.specs.Prelude.{◌≡◌, ℕ, ◌<◌, false, length, Option, Some, None, slice_index}
use Rattle.std.specs.Prelude.{slice_index_or}
use Rattle.hg_place.specs.declared.Actor.{Actor}
use Rattle.hg_place.specs.declared.Handle.{Handle}
use Rattle.hg_place.specs.declared.Place.{Place}
use Rattle.hg_place.specs.declared.Right.{Right}
use Rattle.hg_place.specs.declared.Right.TheVariants as right
use Rattle.hg_place.specs.Lives.{IsLiveWord}
use Rattle.hg_place.specs.Plain.{plain_words}
use Rattle.hg_place.specs.Standings.{slot_of}
use Rattle.hg_segment.specs.Parted.{plain_number}
use Rattle.hg_pool.specs.Pooled.{IsPooled, IsOf}
use Rattle.hg_heap.specs.Answers.{away_answer, list_denial}
use Rattle.hg_heap.specs.Held.{is_held}
use Rattle.hg_heap.specs.Parting.{word_in}
use Rattle.hg_heap.specs.Reading.{use_denial}
use Rattle.hg_machine.specs.declared.Answer.TheVariants as answer
use Rattle.hg_machine.specs.declared.Event.TheVariants as event
use Rattle.hg_machine.specs.declared.Rule.{Rule}
use Rattle.hg_machine.specs.Holders.{holds}
use Rattle.hg_machine.specs.SoundPolicy.{IsSoundPolicy}
use Rattle.hg_machine.specs.Steps.{Step}
use Rattle.hg_agreement.specs.Parts.{Plain, plain_of, state_of}
use Rattle.hg_parts.specs.Tidy.{IsTidy}
use Rattle.hg_events.specs.Core.{Core, parts_of, heap_of}

abbrev pub word_by : Option Plain → ℕ → ℕ
word_by None at = 0
word_by (Some one) at = slice_index_or one.slots at 0

-- the slot word of a place, wherever its segment stands; 0 where the policy has no such segment
abbrev pub word_at : Core → Place → ℕ
word_at core place = word_by (plain_of (parts_of core) place.segment) (slot_of place)

-- the word that a heap has of the place is this one
abbrev pub HeapWordIsWordAt : Type 0
HeapWordIsWordAt =
    (core : Core) (worker : ℕ) (place : Place) (word : ℕ) → IsTidy (parts_of core)
    → word_in (heap_of core worker).segments place ≡ Some word
    → word_at core place ≡ word

-- and so is the word that the pool has
abbrev pub PoolWordIsWordAt : Type 0
PoolWordIsWordAt =
    (core : Core) (place : Place) (word : ℕ) → IsTidy (parts_of core)
    → IsOf plain_number core.pool place.segment
    (λ one. word ≡ slice_index (plain_words one.slots) (slot_of place))
    → word_at core place ≡ word

-- a worker holds in the machine's state what its heap has
abbrev pub HoldsIsHeld : Type 0
HoldsIsHeld =
    (core : Core) (worker segment : ℕ) → IsTidy (parts_of core) → worker < length core.heaps
    → holds (state_of (parts_of core)) worker segment
    ≡ is_held plain_number (heap_of core worker).segments segment

-- no heap has the segment
abbrev pub IsInNoHeap : Core → ℕ → Type 0
IsInNoHeap core segment =
    (worker : ℕ) → worker < length core.heaps
    → is_held plain_number (heap_of core worker).segments segment ≡ false

-- where the pool hasn't it either, the word is 0
abbrev pub NowhereWordIsZero : Type 0
NowhereWordIsZero =
    (core : Core) (place : Place) → IsInNoHeap core place.segment
    → ¬ IsPooled plain_number core.pool place.segment
    → word_at core place ≡ 0

-- a segment of the policy that no heap has is in the pool
abbrev pub UnheldIsPooled : Type 0
UnheldIsPooled =
    (core : Core) (segment : ℕ) → IsTidy (parts_of core)
    → segment < length core.policy.segments → IsInNoHeap core segment
    → IsPooled plain_number core.pool segment

-- what no rule denies has the word of a live block, and its segment is one of the policy
abbrev pub UndeniedWordIsLive : Type 0
UndeniedWordIsLive =
    (core : Core) (actor : ℕ) (right : Right) (handle : Handle) → IsTidy (parts_of core)
    → use_denial core.policy actor right handle (word_at core handle.place) ≡ None
    → IsLiveWord (word_at core handle.place)
    × (handle.place.segment < length core.policy.segments)

-- one of the workers, whose heap hasn't the segment
pub record IsAway (core : Core) (worker segment : ℕ) : Type 0 where
  pub below : worker < length core.heaps
  pub unheld : is_held plain_number (heap_of core worker).segments segment ≡ false

-- a Read, a Write and a Look of such a segment's block are answered so, and nothing changes
abbrev pub ReadElsewhere : Type 0
ReadElsewhere =
    (core : Core) (worker : ℕ) (actor : Actor) (handle : Handle) (index : ℕ)
    → IsSoundPolicy core.policy → IsTidy (parts_of core) → IsAway core worker handle.place.segment
    → Step (state_of (parts_of core)) worker (event.Read actor handle index)
    (away_answer
    (use_denial core.policy actor.0 right.Read handle (word_at core handle.place)))
    (state_of (parts_of core))

abbrev pub WriteElsewhere : Type 0
WriteElsewhere =
    (core : Core) (worker : ℕ) (actor : Actor) (handle : Handle) (index value : ℕ)
    → IsSoundPolicy core.policy → IsTidy (parts_of core) → IsAway core worker handle.place.segment
    → Step (state_of (parts_of core)) worker (event.Write actor handle index value)
    (away_answer
    (use_denial core.policy actor.0 right.Write handle (word_at core handle.place)))
    (state_of (parts_of core))

abbrev pub LookElsewhere : Type 0
LookElsewhere =
    (core : Core) (worker : ℕ) (actor : Actor) (place : Place)
    → IsSoundPolicy core.policy → IsTidy (parts_of core) → IsAway core worker place.segment
    → Step (state_of (parts_of core)) worker (event.Look actor place)
    (away_answer (list_denial core.policy actor place (word_at core place)))
    (state_of (parts_of core))

-- a Free that a rule denies is refused by it, also where the worker holds the segment
abbrev pub FreeIsDeniedElsewhere : Type 0
FreeIsDeniedElsewhere =
    (core : Core) (worker : ℕ) (actor : Actor) (handle : Handle) (rule : Rule)
    → IsSoundPolicy core.policy → IsTidy (parts_of core)
    → use_denial core.policy actor.0 right.Free handle (word_at core handle.place) ≡ Some rule
    → Step (state_of (parts_of core)) worker (event.Free actor handle) (answer.Denied rule)
    (state_of (parts_of core))

-- one that none denies, of such a segment's block, is refused as Busy where the worker has a place
-- in hand
abbrev pub FreeIsBusy : Type 0
FreeIsBusy =
    (core : Core) (worker : ℕ) (actor : Actor) (handle : Handle) (hand : ℕ)
    → IsSoundPolicy core.policy → IsTidy (parts_of core) → IsAway core worker handle.place.segment
    → use_denial core.policy actor.0 right.Free handle (word_at core handle.place) ≡ None
    → slice_index_or core.hands worker None ≡ Some hand
    → Step (state_of (parts_of core)) worker (event.Free actor handle) answer.Busy
    (state_of (parts_of core))
