-- Room in a view, and answers of what isn't refused.
use Rattle.std.proofs.Common.{◌≡◌, ℕ, ◌+◌, ◌==◌, ◌<◌, ◌*◌, ◌≤◌, inl, inr, Bool, true, not, ◌&&◌}
use Rattle.std.proofs.Common.{◌||◌, Option, Some, None, unwrap_or, length, refl, sym, ap, ◌∙◌}
use Rattle.std.proofs.Common.{arith, max, nat_lt}
use Rattle.std.proofs.lemmas.Bool.{cases_Bool, or_left, or_right, and_from, and_parts}
use Rattle.std.proofs.lemmas.Bool.{not_from_false}
use Rattle.hg_place.specs.declared.Handle.{Handle}
use Rattle.hg_place.specs.declared.standing.Standing.{Standing}
use Rattle.hg_place.specs.declared.standing.Standing.TheVariants.{Home, Open}
use Rattle.hg_place.specs.Places.{number_of, place_at, segment_of, page_of, index_of}
use Rattle.hg_place.specs.Standings.{is_home, standing_generation}
use Rattle.hg_place.proofs.PlaceNumbers.{number_of-place_at}
use Rattle.hg_machine.specs.declared.AllocVerdict.{AllocVerdict}
use Rattle.hg_machine.specs.Denial.{denial_on}
use Rattle.hg_machine.specs.Policy.{arena_of}
use Rattle.hg_machine.specs.Holders.{is_number}
use Rattle.hg_machine.specs.Room.{suits}
use Rattle.hg_size.specs.Sizes.{places_of}
use Rattle.hg_machine.specs.Request.{words_for, size_of, alloc_verdict}
use Rattle.hg_machine.proofs.Allowed.{parts, no_denial, in_room}
use Rattle.hg_machine.proofs.Answered.{found}
use Rattle.hg_machine.proofs.Serves.{fits_parts}
use Rattle.hg_agreement.specs.Views.{View, slot_shown}
use Rattle.hg_agreement.specs.Seen.{alloc_in, charge_in, is_open_to_in, has_open_in, has_room_in}
use Rattle.hg_agreement.specs.Seen.{is_room_in}
use Rattle.hg_agreement.specs.Answerable.{RoomsAgree, RoomIsSomeHandle, RowIsThere}
use Rattle.hg_agreement.proofs.Rooms.{same_room}
use Rattle.hg_place.specs.declared.Right.TheVariants as right
use Rattle.hg_machine.specs.declared.AllocVerdict.TheVariants as alloc

pub rooms_agree : RoomsAgree
rooms_agree m view shown arena size place agrees = same_room m view shown arena size place agrees

-- an allocation that isn't refused has a size, and room for it
pub roomy : (view : View) (arena : ℕ) (v : AllocVerdict) → alloc_in view arena v ≡ None
    → (size : ℕ) × (v ≡ alloc.Fits size) × (has_room_in view arena size ≡ true)
roomy view arena (alloc.Denied r) e = absurd (cc)
roomy view arena alloc.TooLarge e = absurd (cc)
roomy view arena (alloc.Fits size) e = (size, refl, in_room (has_room_in view arena size) e)

-- a place of the policy with room
abbrev HasPlace : View → ℕ → ℕ → Type 0
HasPlace view arena size =
    (k : ℕ) × (k < length view.policy.segments * 8192) × (is_room_in view arena size k ≡ true)
    × (is_home (view.standing k) ≡ true)

-- a place that may be given out is home
open_home : (held arena class below home worn : Bool)
    → (held && (arena && (class && (below && (home && worn))))) ≡ true → home ≡ true
open_home held arena class below home worn e =
    let a = and_parts held _ e in
    let b = and_parts arena _ a.1 in
    let c = and_parts class _ b.1 in
    let d = and_parts below _ c.1 in
    (and_parts home _ d.1).0

free_at : (view : View) (arena size : ℕ) (wanted : Option ℕ) (k : ℕ)
    → is_open_to_in view arena size wanted k ≡ true → is_home (view.standing k) ≡ true
free_at view arena size wanted k e =
    open_home (view.holds (segment_of k)) (is_number arena (arena_of view.policy (segment_of k)))
    (suits view.class size wanted (page_of k))
    (nat_lt (index_of k) (places_of size)) (is_home (view.standing k))
    (not (standing_generation (view.standing k) == view.policy.max_generation)) e

room_found : (view : View) (arena size : ℕ) → has_room_in view arena size ≡ true
    → HasPlace view arena size
room_found view arena size e =
    let n = length view.policy.segments * 8192 in
    elim (cases_Bool (has_open_in view arena size (Some size))) [
      | inl t ↦
          let f = found (is_open_to_in view arena size (Some size)) n t in
          (f.0, f.1, or_left _ _ f.2, free_at view arena size (Some size) f.0 f.2)
      | inr none ↦
          let o : has_open_in view arena size None ≡ true =
          ap (λ b. b || has_open_in view arena size None) (sym none) ∙ e in
          let f = found (is_open_to_in view arena size None) n o in (
            f.0,
            f.1,
            or_right _ _ (and_from _ _ (not_from_false _ none) f.2),
            free_at view arena
                size None f.0 f.2,
          )
    ]

home_is : (s : Standing) → is_home s ≡ true → s ≡ Home (standing_generation s)
home_is (Home g) e = refl
home_is (Open g o) e = absurd (cc)

pub room_is_some_handle : RoomIsSomeHandle
room_is_some_handle view shown actor arena bytes few none =
    let charge = charge_in view actor.0 in
    let r = roomy view arena (alloc_verdict view.policy actor.0 arena (words_for bytes) charge) none
    in
    let size_is : size_of bytes ≡ r.0 =
    ap (λ o. unwrap_or o 0) (fits_parts view.policy actor.0 arena (words_for bytes) charge r.0
    r.1).1 in
    let k = room_found view arena (size_of bytes) (ap (has_room_in view arena) size_is ∙ r.2) in
    let is = number_of-place_at k.0 (omega (arith, k.1, few)) in
    let g = standing_generation (view.standing k.0) in
    let handle : Handle =
    record { place = place_at k.0; generation = g + 1; given_out = omega arith } in (
      handle,
      ap (is_room_in view arena (size_of bytes)) is ∙ k.2,
      ap view.standing is ∙ home_is (view.standing k.0) k.3 ∙ ap Home (omega arith),
    )

pub row_is_there : RowIsThere
row_is_there view shown actor place none =
    let slot = slot_shown shown in
    let d = no_denial (denial_on view.policy actor.0 right.List place.segment
    (max 1 slot.generation) slot) _ none in
    let p = parts view.policy actor.0 right.List place.segment (max 1 slot.generation) slot d.0 in (
      record {
        handle = record {
          place = place;
          generation = slot.generation;
          given_out = at_least
              slot.generation p.1;
        };
        owner = slot.owner;
        bytes = 8 * length (view.block (number_of place));
      },
      record { stands = refl; generation = refl; owner = refl; bytes = refl },
    ) where
      at_least : (g : ℕ) → g ≡ max 1 g → 1 ≤ g
      at_least g e = omega arith
