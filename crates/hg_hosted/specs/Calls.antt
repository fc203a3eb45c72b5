-- What each call of a worker does between two states: the clauses of hg_worker's call of that name.
use Rattle.std.specs.Prelude.{◌≡◌, ◌≢◌, ◌==◌, ℕ, ◌-◌, true, false, max, [], List, Option}
use Rattle.std.specs.Prelude.{None, Some, MatchOption, IfSome, IfNone, IsTrue, IsFalse}
use Rattle.hg_place.specs.declared.Actor.{Actor}
use Rattle.hg_place.specs.declared.Handle.{Handle}
use Rattle.hg_place.specs.declared.Place.{Place}
use Rattle.hg_place.specs.declared.Right.TheVariants as right
use Rattle.hg_place.specs.Lives.{live_word, IsLiveWord}
use Rattle.hg_place.specs.Places.{number_of, page_number}
use Rattle.hg_machine.specs.Denial.{denial_on}
use Rattle.hg_machine.specs.declared.Event.TheVariants as event
use Rattle.hg_machine.specs.Request.{size_of}
use Rattle.hg_machine.specs.declared.Answer.{Answer}
use Rattle.hg_machine.specs.declared.Answer.TheVariants as answer
use Rattle.hg_machine.specs.declared.Row.{Row}
use Rattle.hg_size.specs.Sizes.{number_of_size}
use Rattle.hg_size.specs.SizeLaws.{key_of}
use Rattle.hg_agreement.specs.Views.{Shown, slot_shown}
use Rattle.hg_heap.specs.Allotted.{IsAllotted}
use Rattle.hg_heap.specs.Answers.{away_answer, list_denial}
use Rattle.hg_heap.specs.Choice.{chosen_place}
use Rattle.hg_heap.specs.Held.{is_held, lists_on, has_place, greatest_in, KeepsLists}
use Rattle.hg_heap.specs.Idle.{idle_pages, Collected, IdleAreOut}
use Rattle.hg_heap.specs.Judged.{IsJudged}
use Rattle.hg_heap.specs.Keeping.{KeepsAll, Wrote}
use Rattle.hg_heap.specs.Lists.{CameHome, GivenOut}
use Rattle.hg_heap.specs.Queues.{key_on}
use Rattle.hg_heap.specs.Reading.{block_in as block_at, IsRowOf}
use Rattle.hg_heap.specs.Records.{IsHomeAlone}
use Rattle.hg_heap.specs.Requeued.{requeued}
use Rattle.hg_heap.specs.Ties.{shown_at, HeapTies}
use Rattle.hg_worker.specs.Answers.{block_in, is_done, is_freed, hand_after}
use Rattle.hg_worker.specs.Judged.{found_word, rule_of}
use Rattle.hg_worker.specs.Listing.{open_places}
use Rattle.hg_worker.specs.Seats.{number_in, records_in, seat_shows, seat_steps}
use Rattle.hg_worker.specs.declared.state.WorkerState.{WorkerState}
use Rattle.hg_hosted.specs.States.{Looks, Decides, Tries, Ends, StaysUnseen, Finds, SendsHome}
use Rattle.hg_hosted.specs.States.{SendsNoneHome, KeepsSegments, IsMachines, Lists, Keeps}

-- a block is given out, or refused
pub record Allocates (actor : Actor) (arena bytes : ℕ) (result : Answer) (old new : WorkerState)
    : Type 0 where
  pub alloc :
      MatchOption (block_in result)
      (IsMachines None (event.Alloc actor arena bytes) result None old new)
      (λ handle. (word : ℕ)
      × Decides handle.place word (live_word handle.generation actor.0) [] old new
      × IsMachines (shown_at handle.place word) (event.Alloc actor arena bytes) result
      (shown_at handle.place (live_word handle.generation actor.0)) old new)
  pub given :
      IfSome (block_in result) (λ handle. IsAllotted number_in records_in seat_shows seat_steps
      (size_of bytes) actor.0 handle old.heap.segments new.heap.segments)
  pub chosen :
      IfSome (block_in result) (λ handle.
      chosen_place number_in records_in old.heap arena (size_of bytes)
      ≡ Some (number_of handle.place))
  pub no_room :
      result ≡ answer.NoRoom
      → chosen_place number_in records_in old.heap arena (size_of bytes) ≡ None
  pub lists :
      IfSome (block_in result) (λ handle. GivenOut number_in records_in arena (size_of bytes)
      (page_number handle.place) handle.place.index old.heap.segments new.heap.segments)
  pub queues :
      IfSome (block_in result) (λ handle. new.heap.queues ≡ requeued
      (key_of arena (number_of_size (size_of bytes))) (page_number handle.place)
      (has_place (lists_on number_in new.heap.segments (page_number handle.place)))
      old.heap.queues)
  pub refused : IfNone (block_in result) (StaysUnseen old new)
  pub unchanged : IfNone (block_in result) (new.heap ≡ old.heap)
  pub any :
      IfNone (block_in result) ((shown : Option Shown) → Finds shown old
      → IsMachines shown (event.Alloc actor arena bytes) result shown old new)
  pub any_hand :
      IfNone (block_in result) ((shown : Option Shown)
      → HeapTies number_in records_in old.policy shown shown (event.Alloc actor arena bytes) result
      old.heap.segments new.heap.segments)
  pub home : SendsNoneHome old new
  pub rest : Keeps old new

-- pages without an open place lose their class
pub record Collects (result : Answer) (old new : WorkerState) : Type 0 where
  pub collect : IsMachines None event.Collect result None old new
  pub any :
      (shown : Option Shown) → Finds shown old
      → IsMachines shown event.Collect result shown old new
  pub pages : result ≡ answer.Pages (idle_pages number_in records_in old.heap.segments)
  pub collected : Collected number_in records_in old.heap new.heap
  pub out : IdleAreOut number_in records_in old.heap new.heap
  pub seats : StaysUnseen old new
  pub any_hand :
      (shown : Option Shown)
      → HeapTies number_in records_in old.policy shown shown event.Collect result
      old.heap.segments new.heap.segments
  pub home : SendsNoneHome old new
  pub rest : Keeps old new

-- a block is freed, or that is refused
pub record Frees (actor : Actor) (handle : Handle) (result : Answer) (old new : WorkerState)
    : Type 0 where
  pub freed :
      IsTrue (is_freed result) → (word : ℕ) × Ends handle.place word old new
      × IsMachines (shown_at handle.place word) (event.Free actor handle) result
      (shown_at handle.place (word - 1)) old new
  pub refused :
      IsFalse (is_freed result) → (shown : Option Shown) × Looks handle.place shown old new
      × IsMachines shown (event.Free actor handle) result shown old new
  pub served :
      IsTrue (is_freed result) → (word : ℕ) × Ends handle.place word old new
      × IsJudged old.policy actor.0 right.Free handle word None
  pub judged :
      IsFalse (is_freed result) → (shown : Option Shown) × Looks handle.place shown old new
      × IsJudged old.policy actor.0 right.Free handle (found_word shown) (rule_of result)
  pub records :
      IsTrue (is_done result)
      → IsHomeAlone number_in records_in handle old.heap.segments new.heap.segments
  pub lists :
      IsTrue (is_done result) → CameHome number_in
      (handle.generation == greatest_in number_in old.heap.segments handle.place.segment)
      (page_number handle.place) handle.place.index old.heap.segments new.heap.segments
  pub queues :
      IsTrue (is_done result) → (key : ℕ)
      × (key_on number_in old.heap.segments (page_number handle.place) ≡ Some key)
      × (new.heap.queues ≡ requeued key (page_number handle.place)
      (has_place (lists_on number_in new.heap.segments (page_number handle.place)))
      old.heap.queues)
  pub kept :
      IsFalse (is_done result) → KeepsSegments old new × (new.heap.queues ≡ old.heap.queues)
  pub home :
      SendsHome (λ place. IsTrue (is_done result) × (place ≡ number_of handle.place)) old new
  pub any_hand :
      IsTrue (is_done result) → (word : ℕ) × Ends handle.place word old new
      × HeapTies number_in records_in old.policy (shown_at handle.place word)
      (shown_at handle.place (word - 1)) (event.Free actor handle) result
      old.heap.segments new.heap.segments
  pub held :
      IsTrue (is_freed result)
      → is_done result ≡ is_held number_in old.heap.segments handle.place.segment
  pub once :
      is_held number_in old.heap.segments handle.place.segment ≡ true
      → Tries 1 handle.place old new
  pub few : Tries 2 handle.place old new
  pub parted : result ≡ answer.Parted → old.hand ≡ None
  pub busy :
      IsFalse (is_freed result) → rule_of result ≡ None
      → (result ≡ answer.Busy) × (old.hand ≢ None)
      × (is_held number_in old.heap.segments handle.place.segment ≡ false)
  pub hand : new.hand ≡ hand_after result handle old.hand
  pub rest : (new.policy ≡ old.policy) × (new.number ≡ old.number)

-- a word of a block is read, or that is refused
pub record Reads (actor : Actor) (handle : Handle) (index : ℕ) (result : Answer)
    (old new : WorkerState) : Type 0 where
  pub read :
      (shown : Option Shown) × Looks handle.place shown old new
      × IsMachines shown (event.Read actor handle index) result shown old new
  pub judged :
      (shown : Option Shown) × Looks handle.place shown old new
      × IsJudged old.policy actor.0 right.Read handle (found_word shown) (rule_of result)
  pub away :
      is_held number_in old.heap.segments handle.place.segment ≡ false
      → (shown : Option Shown) × Looks handle.place shown old new
      × (result ≡ away_answer (denial_on old.policy actor.0 right.Read
      handle.place.segment handle.generation (slot_shown shown)))
  pub any_hand :
      is_held number_in old.heap.segments handle.place.segment ≡ true
      → (word : ℕ) × Looks handle.place (shown_at handle.place word) old new
      × HeapTies number_in records_in old.policy (shown_at handle.place word)
      (shown_at handle.place word) (event.Read actor handle index) result
      old.heap.segments new.heap.segments
  pub once : Tries 1 handle.place old new
  pub kept : KeepsSegments old new
  pub home : SendsNoneHome old new
  pub lists : KeepsLists number_in old.heap.segments new.heap.segments
  pub queues : new.heap.queues ≡ old.heap.queues
  pub rest : Keeps old new

-- a word of a block is written, or that is refused
pub record Writes (actor : Actor) (handle : Handle) (index value : ℕ) (result : Answer)
    (old new : WorkerState) : Type 0 where
  pub write :
      (shown : Option Shown) × Looks handle.place shown old new
      × IsMachines shown (event.Write actor handle index value) result shown old new
  pub judged :
      (shown : Option Shown) × Looks handle.place shown old new
      × IsJudged old.policy actor.0 right.Write handle (found_word shown) (rule_of result)
  pub away :
      is_held number_in old.heap.segments handle.place.segment ≡ false
      → (shown : Option Shown) × Looks handle.place shown old new
      × (result ≡ away_answer (denial_on old.policy actor.0 right.Write
      handle.place.segment handle.generation (slot_shown shown)))
  pub any_hand :
      is_held number_in old.heap.segments handle.place.segment ≡ true
      → (word : ℕ) × Looks handle.place (shown_at handle.place word) old new
      × HeapTies number_in records_in old.policy (shown_at handle.place word)
      (shown_at handle.place word) (event.Write actor handle index value) result
      old.heap.segments new.heap.segments
  pub once : Tries 1 handle.place old new
  pub kept : IsFalse (is_done result) → KeepsSegments old new
  pub wrote :
      IsTrue (is_done result)
      → Wrote number_in records_in handle.place index value old.heap.segments new.heap.segments
  pub home : SendsNoneHome old new
  pub lists : KeepsLists number_in old.heap.segments new.heap.segments
  pub queues : new.heap.queues ≡ old.heap.queues
  pub rest : Keeps old new

-- the block at a place is shown, or that is refused
pub record LooksAt (actor : Actor) (place : Place) (result : Answer) (old new : WorkerState)
    : Type 0 where
  pub look :
      (shown : Option Shown) × Looks place shown old new
      × IsMachines shown (event.Look actor place) result shown old new
  pub judged :
      (shown : Option Shown) × Looks place shown old new
      × (list_denial old.policy actor place (found_word shown) ≡ rule_of result)
  pub row :
      (row : Row) → result ≡ answer.Listed row → (word : ℕ)
      × Looks place (shown_at place word) old new × IsLiveWord word
      × IsRowOf place word (block_at number_in old.heap.segments place) row
  pub away :
      is_held number_in old.heap.segments place.segment ≡ false
      → (shown : Option Shown) × Looks place shown old new
      × (result ≡ away_answer (denial_on old.policy actor.0 right.List
      place.segment (max 1 (slot_shown shown).generation) (slot_shown shown)))
  pub any_hand :
      is_held number_in old.heap.segments place.segment ≡ true
      → (word : ℕ) × Looks place (shown_at place word) old new
      × HeapTies number_in records_in old.policy (shown_at place word)
      (shown_at place word) (event.Look actor place) result
      old.heap.segments new.heap.segments
  pub once : Tries 1 place old new
  pub kept : KeepsAll number_in records_in old.heap.segments new.heap.segments
  pub home : SendsNoneHome old new
  pub lists : KeepsLists number_in old.heap.segments new.heap.segments
  pub queues : new.heap.queues ≡ old.heap.queues
  pub rest : Keeps old new

-- the blocks that the worker holds are shown: one look at each place that records one, rising
pub record ListsAll (actor : Actor) (rows : List Row) (old new : WorkerState) : Type 0 where
  pub listed : Lists actor (open_places number_in records_in old.heap.segments) rows old new
  pub kept : KeepsAll number_in records_in old.heap.segments new.heap.segments
  pub queues : new.heap.queues ≡ old.heap.queues
  pub home : SendsNoneHome old new
  pub rest : Keeps old new
