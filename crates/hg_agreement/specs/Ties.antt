-- Laws: each state that agrees with a worker and the observed word gives the worker's answer, and
-- its successor agrees afterwards.
use Rattle.std.specs.Prelude.{◌≡◌, ℕ, ◌-◌, ◌<◌, ◌≤◌, true, false, Option, Some, None, slice_index}
use Rattle.hg_place.specs.declared.Actor.{Actor}
use Rattle.hg_place.specs.declared.Place.{Place}
use Rattle.hg_place.specs.declared.Handle.{Handle}
use Rattle.hg_place.specs.Places.{number_of}
use Rattle.hg_place.specs.declared.Right.{Right}
use Rattle.hg_place.specs.Slots.{Slot, slot_in}
use Rattle.hg_place.specs.Lives.{live_word}
use Rattle.hg_machine.specs.declared.Event.{Event}
use Rattle.hg_machine.specs.declared.Event.TheVariants as event
use Rattle.hg_machine.specs.declared.Answer.{Answer}
use Rattle.hg_machine.specs.declared.Answer.TheVariants as answer
use Rattle.hg_machine.specs.declared.Row.{Row}
use Rattle.hg_machine.specs.State.{State}
use Rattle.hg_machine.specs.Denial.{denial_on}
use Rattle.hg_machine.specs.Request.{size_of}
use Rattle.hg_machine.specs.Refusal.{refusal}
use Rattle.hg_machine.specs.Steps.{Step}
use Rattle.hg_place.specs.declared.standing.Standing.TheVariants.{Home}
use Rattle.hg_agreement.specs.Views.{View, Shown, slot_shown}
use Rattle.hg_agreement.specs.Agreement.{Agrees, Ties}
use Rattle.hg_agreement.specs.Seen.{IsShownFor, refusal_in, IsRowIn, idle_pages_in, is_room_in}
use Rattle.hg_agreement.specs.Witness.{IsHandOf, IsFoundBy, IsUsual}
use Rattle.hg_agreement.specs.Changed.{IsLike, written, freed, taken_in_hand, collected, opened}

-- views that tell the same agree with the same states
abbrev pub LikeAgrees : Type 0
LikeAgrees =
    (m : State) (view other : View) (shown : Option Shown) → IsLike view other
    → Agrees m view shown → Agrees m other shown

-- so what is tied is tied with a view that tells the same
abbrev pub TiesAreLike : Type 0
TiesAreLike =
    (before after other : View) (shown left : Option Shown) (event : Event) (answer : Answer)
    → IsLike after other → Ties before shown event answer after left
    → Ties before shown event answer other left

-- what no rule denies was live, with the generation of the handle, so a free whose exchange found
-- another word is denied
abbrev pub UndeniedIsLive : Type 0
UndeniedIsLive =
    (view : View) (slot : Slot) (actor : ℕ) (right : Right) (handle : Handle)
    → denial_on view.policy actor right handle.place.segment handle.generation slot ≡ None
    → (slot.generation ≡ handle.generation) × (slot.live ≡ true)

-- the state refuses what the view and the word refuse
abbrev pub RefusalsAgree : Type 0
RefusalsAgree =
    (m : State) (view : View) (shown : Option Shown) (event : Event) → Agrees m view shown
    → IsShownFor view event shown
    → refusal m view.worker event ≡ refusal_in view (slot_shown shown) event

-- a refused call leaves everything
abbrev pub RefusedIsTied : Type 0
RefusedIsTied =
    (view : View) (shown : Option Shown) (event : Event) (refused : Answer)
    → view.worker < view.policy.workers → IsShownFor view event shown
    → refusal_in view (slot_shown shown) event ≡ Some refused
    → Ties view shown event refused view shown

abbrev pub ReadIsTied : Type 0
ReadIsTied =
    (view : View) (shown : Option Shown) (actor : Actor) (handle : Handle) (index : ℕ)
    → view.worker < view.policy.workers
    → IsShownFor view (event.Read actor handle index) shown
    → refusal_in view (slot_shown shown) (event.Read actor handle index) ≡ None
    → Ties view shown (event.Read actor handle index)
    (answer.Value (slice_index (view.block (number_of handle.place)) index)) view shown

abbrev pub LookIsTied : Type 0
LookIsTied =
    (view : View) (shown : Option Shown) (actor : Actor) (place : Place) (row : Row)
    → view.worker < view.policy.workers
    → IsShownFor view (event.Look actor place) shown
    → refusal_in view (slot_shown shown) (event.Look actor place) ≡ None
    → IsRowIn view (slot_shown shown) place row
    → Ties view shown (event.Look actor place) (answer.Listed row) view shown

abbrev pub WriteIsTied : Type 0
WriteIsTied =
    (view : View) (shown : Option Shown) (actor : Actor) (handle : Handle) (index value : ℕ)
    → view.worker < view.policy.workers
    → IsShownFor view (event.Write actor handle index value) shown
    → refusal_in view (slot_shown shown) (event.Write actor handle index value) ≡ None
    → Ties view shown (event.Write actor handle index value) answer.Done
    (written view (number_of handle.place) index value) shown

-- a free of a block of a held segment: the word that the step leaves is the freed one
abbrev pub FreeHereIsTied : Type 0
FreeHereIsTied =
    (view : View) (word : ℕ) (actor : Actor) (handle : Handle)
    → view.worker < view.policy.workers
    → refusal_in view (slot_in word) (event.Free actor handle) ≡ None
    → view.holds handle.place.segment ≡ true
    → Ties view (Some (record { place = number_of handle.place; word = word }))
    (event.Free actor handle) answer.Done
    (freed view (number_of handle.place) handle.generation)
    (Some (record { place = number_of handle.place; word = word - 1 }))

-- and of another one
abbrev pub FreeAwayIsTied : Type 0
FreeAwayIsTied =
    (view : View) (word : ℕ) (actor : Actor) (handle : Handle)
    → view.worker < view.policy.workers
    → refusal_in view (slot_in word) (event.Free actor handle) ≡ None
    → view.holds handle.place.segment ≡ false
    → Ties view (Some (record { place = number_of handle.place; word = word }))
    (event.Free actor handle) answer.Parted
    (taken_in_hand view (number_of handle.place) handle.generation)
    (Some (record { place = number_of handle.place; word = word - 1 }))

abbrev pub CollectIsTied : Type 0
CollectIsTied =
    (view : View) (shown : Option Shown) → view.worker < view.policy.workers
    → Ties view shown event.Collect (answer.Pages (idle_pages_in view)) (collected view) shown

-- an allocation at a place where the heap has room; the word that the step leaves is the live one
abbrev pub AllocIsTied : Type 0
AllocIsTied =
    (view : View) (shown : Option Shown) (actor : Actor) (arena bytes : ℕ) (handle : Handle)
    → view.worker < view.policy.workers
    → refusal_in view (slot_shown shown) (event.Alloc actor arena bytes) ≡ None
    → is_room_in view arena (size_of bytes) (number_of handle.place) ≡ true
    → view.standing (number_of handle.place) ≡ Home (handle.generation - 1)
    → Ties view shown (event.Alloc actor arena bytes) (answer.Block handle)
    (opened view (number_of handle.place) handle.generation actor.0 (size_of bytes))
    (Some (record {
      place = number_of handle.place;
      word = live_word handle.generation actor.0;
    }))

-- a tied call of a worker whose view a state agrees with is a step of the machine, and the state
-- that it leaves agrees with what the worker has then
abbrev pub TiedCallsAreSteps : Type 0
TiedCallsAreSteps =
    (m : State) (before after : View) (shown left : Option Shown) (event : Event) (answer : Answer)
    → Ties before shown event answer after left → Agrees m before shown
    → (new : State) × Step m before.worker event answer new × Agrees new after left

-- a block that was freed away is, in the hand, of the life that the word says is over, so the
-- witness state of the worker agrees afterwards too
abbrev pub FreedHandIsUsual : Type 0
FreedHandIsUsual =
    (view : View) (word : ℕ) (actor : Actor) (handle : Handle)
    → refusal_in view (slot_in word) (event.Free actor handle) ≡ None
    → view.holds handle.place.segment ≡ false → handle.generation ≤ view.policy.max_generation
    → IsHandOf (taken_in_hand view (number_of handle.place) handle.generation)
    × IsFoundBy (taken_in_hand view (number_of handle.place) handle.generation)
    (record { place = number_of handle.place; word = word - 1 })
    × IsUsual (taken_in_hand view (number_of handle.place) handle.generation)
    (Some (record { place = number_of handle.place; word = word - 1 }))
