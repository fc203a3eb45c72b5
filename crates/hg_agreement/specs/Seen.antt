-- What a worker is answered, by what it has and the observed word.
use Rattle.std.specs.Prelude.{◌≡◌, ℕ, ◌*◌, ◌==◌, ◌&&◌, ◌||◌, Bool, not, nat_lt, max, if◌then◌else◌}
use Rattle.std.specs.Prelude.{[], ◌∷◌, length, sum_by, count_by, Option, Some, None, is_some, List}
use Rattle.std.specs.Prelude.{⊤}
use Rattle.std.specs.List.{list_any, list_all, range_with_len}
use Rattle.hg_place.specs.declared.geometry.TheConstants.{SEGMENT_PLACES, SEGMENT_PAGES}
use Rattle.hg_place.specs.declared.geometry.TheConstants.{PAGE_PLACES, WORD_BYTES}
use Rattle.hg_size.specs.Sizes.{places_of}
use Rattle.hg_place.specs.declared.Right.{Right}
use Rattle.hg_place.specs.declared.Right.TheVariants as right
use Rattle.hg_place.specs.declared.Place.{Place}
use Rattle.hg_place.specs.declared.Handle.{Handle}
use Rattle.hg_place.specs.Places.{number_of, page_of, segment_of, index_of, segment_of_page}
use Rattle.hg_place.specs.Slots.{Slot}
use Rattle.hg_place.specs.Standings.{is_home, standing_generation, standing_owner}
use Rattle.hg_machine.specs.declared.Event.{Event}
use Rattle.hg_machine.specs.declared.Event.TheVariants as event
use Rattle.hg_machine.specs.declared.Answer.{Answer}
use Rattle.hg_machine.specs.declared.Answer.TheVariants as answer
use Rattle.hg_machine.specs.declared.AllocVerdict.{AllocVerdict}
use Rattle.hg_machine.specs.declared.AllocVerdict.TheVariants as alloc
use Rattle.hg_machine.specs.declared.Row.{Row}
use Rattle.hg_machine.specs.Policy.{arena_of}
use Rattle.hg_machine.specs.Holders.{is_number}
use Rattle.hg_machine.specs.Room.{suits}
use Rattle.hg_machine.specs.Denial.{denial_on}
use Rattle.hg_machine.specs.Request.{words_for, alloc_verdict}
use Rattle.hg_machine.specs.Refusal.{denial_or}
use Rattle.hg_agreement.specs.Views.{View, Shown}

-- what a call on a block at this place has looked at: its word, or nothing where the policy has no
-- such segment
abbrev pub IsShownAt : View → Place → Option Shown → Type 0
IsShownAt view place None = arena_of view.policy place.segment ≡ None
IsShownAt view place (Some shown) = shown.place ≡ number_of place

-- what a call of this event has looked at; only these six are decided by a worker's own step
abbrev pub IsShownFor : View → Event → Option Shown → Type 0
IsShownFor view (event.Alloc actor arena bytes) shown = ⊤
IsShownFor view (event.Free actor handle) shown = IsShownAt view handle.place shown
IsShownFor view event.Collect shown = ⊤
IsShownFor view (event.Read actor handle index) shown = IsShownAt view handle.place shown
IsShownFor view (event.Write actor handle index value) shown = IsShownAt view handle.place shown
IsShownFor view (event.Look actor place) shown = IsShownAt view place shown
IsShownFor view event shown = ⊥

-- all places of the policy, all pages, and all segments
abbrev pub places_of_view : View → List ℕ
places_of_view view = range_with_len 0 (length view.policy.segments * SEGMENT_PLACES)

abbrev pub pages_of_view : View → List ℕ
pages_of_view view = range_with_len 0 (length view.policy.segments * SEGMENT_PAGES)

abbrev pub segments_of_view : View → List ℕ
segments_of_view view = range_with_len 0 (length view.policy.segments)

-- the tenant's charge in the heap
abbrev pub share_in : View → ℕ → ℕ → ℕ
share_in view tenant place =
    if view.holds (segment_of place)
    && (not (is_home (view.standing place)) && standing_owner (view.standing place) == tenant)
    then WORD_BYTES * length (view.block place)
    else 0

abbrev pub charge_in : View → ℕ → ℕ
charge_in view tenant = sum_by (share_in view tenant) (places_of_view view)

-- where the heap has room
abbrev pub is_open_to_in : View → ℕ → ℕ → Option ℕ → ℕ → Bool
is_open_to_in view arena size wanted place =
    view.holds (segment_of place)
    && (is_number arena (arena_of view.policy (segment_of place))
    && (suits view.class size wanted (page_of place)
    && (nat_lt (index_of place) (places_of size)
    && (is_home (view.standing place)
    && not (standing_generation (view.standing place) == view.policy.max_generation)))))

abbrev pub has_open_in : View → ℕ → ℕ → Option ℕ → Bool
has_open_in view arena size wanted =
    list_any (is_open_to_in view arena size wanted) (places_of_view view)

abbrev pub is_room_in : View → ℕ → ℕ → ℕ → Bool
is_room_in view arena size place =
    is_open_to_in view arena size (Some size) place
    || (not (has_open_in view arena size (Some size)) && is_open_to_in view arena size None place)

abbrev pub has_room_in : View → ℕ → ℕ → Bool
has_room_in view arena size =
    has_open_in view arena size (Some size) || has_open_in view arena size None

-- each place of the page is home
abbrev pub is_idle_in : View → ℕ → Bool
is_idle_in view page =
    list_all (λ place. is_home (view.standing place))
    (range_with_len (page * PAGE_PLACES) PAGE_PLACES)

-- the page would lose its class by a Collect
abbrev pub is_given_up : View → ℕ → Bool
is_given_up view page = view.holds (segment_of_page page) && is_idle_in view page

abbrev pub reach_in : View → Slot → ℕ → Right → Handle → ℕ → Option Answer
reach_in view slot actor right handle index =
    denial_or (denial_on view.policy actor right handle.place.segment handle.generation slot)
    ((not (view.holds handle.place.segment), answer.Elsewhere)
    ∷ (not (nat_lt index (length (view.block (number_of handle.place)))), answer.OutOfBlock)
    ∷ [])

abbrev pub alloc_in : View → ℕ → AllocVerdict → Option Answer
alloc_in view arena (alloc.Denied rule) = Some (answer.Denied rule)
alloc_in view arena alloc.TooLarge = Some answer.TooLarge
alloc_in view arena (alloc.Fits size) =
    if has_room_in view arena size then None else Some answer.NoRoom

-- why an event isn't served, by the view and what the observed word says
abbrev pub refusal_in : View → Slot → Event → Option Answer
refusal_in view slot (event.Alloc actor arena bytes) =
    alloc_in view arena
    (alloc_verdict view.policy actor.0 arena (words_for bytes) (charge_in view actor.0))
refusal_in view slot (event.Free actor handle) =
    denial_or
    (denial_on view.policy actor.0 right.Free handle.place.segment handle.generation slot)
    ((not (view.holds handle.place.segment) && is_some view.hand, answer.Busy) ∷ [])
refusal_in view slot (event.Read actor handle index) =
    reach_in view slot actor.0 right.Read handle index
refusal_in view slot (event.Write actor handle index value) =
    reach_in view slot actor.0 right.Write handle index
refusal_in view slot (event.Look actor place) =
    denial_or
    (denial_on view.policy actor.0 right.List place.segment (max 1 slot.generation) slot)
    ((not (view.holds place.segment), answer.Elsewhere) ∷ [])
refusal_in view slot event = None

-- the row of a block: what the word says, and the bytes of the block
pub record IsRowIn (view : View) (slot : Slot) (place : Place) (row : Row) : Type 0 where
  pub stands : row.handle.place ≡ place
  pub generation : row.handle.generation ≡ slot.generation
  pub owner : row.owner ≡ slot.owner
  pub bytes : row.bytes ≡ WORD_BYTES * length (view.block (number_of place))

-- how many pages a Collect answers
abbrev pub idle_pages_in : View → ℕ
idle_pages_in view =
    count_by
    (λ page.
    view.holds (segment_of_page page) && (is_idle_in view page && is_some (view.class page)))
    (pages_of_view view)
