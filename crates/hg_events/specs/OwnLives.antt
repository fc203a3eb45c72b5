-- Lives that begin and end in a worker's own heap: an Alloc, and a Free of a block that it holds.
use Rattle.std.specs.Prelude.{ℕ, ◌-◌, ◌<◌, length, Contains, Option}
use Rattle.hg_place.specs.declared.Actor.{Actor}
use Rattle.hg_place.specs.declared.Handle.{Handle}
use Rattle.hg_place.specs.declared.plain.PlainWords.{PlainWords}
use Rattle.hg_place.specs.Lives.{IsLiveWord, live_word}
use Rattle.hg_place.specs.Plain.{plain_records}
use Rattle.hg_segment.specs.Kept.{Kept}
use Rattle.hg_segment.specs.Parted.{plain_number}
use Rattle.hg_heap.specs.declared.refused.Refused.{Refused}
use Rattle.hg_heap.specs.Allotted.{IsAllotted}
use Rattle.hg_heap.specs.Answers.{refused_answer}
use Rattle.hg_heap.specs.Held.{Held}
use Rattle.hg_heap.specs.Policies.{AreOf}
use Rattle.hg_heap.specs.Settled.{IsSettled}
use Rattle.hg_heap.specs.Ties.{HeapTies, shown_at}
use Rattle.hg_machine.specs.declared.Event.TheVariants as event
use Rattle.hg_machine.specs.declared.Answer.TheVariants as answer
use Rattle.hg_machine.specs.Request.{size_of}
use Rattle.hg_machine.specs.SoundPolicy.{IsSoundPolicy}
use Rattle.hg_machine.specs.Steps.{Step}
use Rattle.hg_agreement.specs.Parts.{state_of}
use Rattle.hg_agreement.specs.Views.{Shown}
use Rattle.hg_parts.specs.Tidy.{IsTidy}
use Rattle.hg_events.specs.Core.{Core, parts_of, heap_of}
use Rattle.hg_events.specs.Own.{with_heap, IsServedBy, OwnCallServes}
use Rattle.hg_events.specs.Take.{plain_shows, plain_steps}

-- the segments of a worker's heap are as the policy has them, as `Heap::alloc` asks
abbrev pub HeapIsOfPolicy : Type 0
HeapIsOfPolicy =
    (core : Core) (worker : ℕ) → IsTidy (parts_of core) → worker < length core.heaps
    → AreOf plain_number core.policy (heap_of core worker).segments

-- what `Heap::alloc` left where it gave a block out, by its clause `given`: one step began the next
-- life of the handle's place, which ties the event and its answer to the machine; and each segment
-- is settled
pub record IsAlloc (core : Core) (worker : ℕ) (actor : Actor) (arena bytes : ℕ) (handle : Handle)
    (heap : Held PlainWords) : Type 0 where
  pub below : worker < length core.heaps
  pub given :
      IsAllotted plain_number plain_records plain_shows plain_steps (size_of bytes) actor.0 handle
      (heap_of core worker).segments heap.segments
  pub ties :
      HeapTies plain_number plain_records core.policy (shown_at handle.place given.word)
      (shown_at handle.place (live_word handle.generation actor.0))
      (event.Alloc actor arena bytes) (answer.Block handle)
      (heap_of core worker).segments heap.segments
  pub settled : (k : Kept PlainWords) → Contains heap.segments k → IsSettled plain_records k

-- that is an Alloc, answered by the handle, and the parts stay tidy
abbrev pub AllocIsServed : Type 0
AllocIsServed =
    (core : Core) (worker : ℕ) (actor : Actor) (arena bytes : ℕ) (handle : Handle)
    (heap : Held PlainWords) → IsSoundPolicy core.policy → IsTidy (parts_of core)
    → IsAlloc core worker actor arena bytes handle heap
    → IsServedBy core worker (event.Alloc actor arena bytes) (answer.Block handle)
    (with_heap core worker heap)

-- what `Heap::alloc` tells where it refused, by its clause `refused`: the heap is as it was, and the
-- answer is tied to the machine whatever word was shown
abbrev pub IsAllocRefused : Core → ℕ → Actor → ℕ → ℕ → Refused → Type 0
IsAllocRefused core worker actor arena bytes refused =
    (shown : Option Shown)
    → HeapTies plain_number plain_records core.policy shown shown
    (event.Alloc actor arena bytes) (refused_answer refused)
    (heap_of core worker).segments (heap_of core worker).segments

-- that is a step of the machine, and changes nothing
abbrev pub AllocIsRefused : Type 0
AllocIsRefused =
    (core : Core) (worker : ℕ) (actor : Actor) (arena bytes : ℕ) (refused : Refused)
    → IsSoundPolicy core.policy → IsTidy (parts_of core) → worker < length core.heaps
    → IsAllocRefused core worker actor arena bytes refused
    → Step (state_of (parts_of core)) worker (event.Alloc actor arena bytes)
    (refused_answer refused) (state_of (parts_of core))

-- a step that ended the life of a live word, as `Heap::free_here` tells by its clause `freed`, is a
-- Free of a block that the worker holds, and the parts stay tidy
abbrev pub FreeIsServed : Type 0
FreeIsServed =
    (core : Core) (worker : ℕ) (actor : Actor) (handle : Handle) (word : ℕ)
    (heap : Held PlainWords) → IsLiveWord word
    → OwnCallServes core worker handle.place word (word - 1) (event.Free actor handle) answer.Done
    heap
