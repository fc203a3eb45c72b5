-- Places of a worker's segment that come home one after the other, in lists and queues.
use Rattle.std.proofs.Common.{◌≡◌, ◌≢◌, ℕ, ◌+◌, ◌*◌, ◌==◌, ◌<◌, Bool, List, [], ◌∷◌, length, refl}
use Rattle.std.proofs.Common.{sym, ap, ◌∙◌, arith, inl, inr, slice_set}
use Rattle.std.specs.Prelude.{Option, Some, option_map}
use Rattle.std.proofs.lemmas.Bool.{cases_eq}
use Rattle.std.proofs.lemmas.List.{get_or-set_other, get_or-set_same, length-set}
use Rattle.hg_lists.specs.Repeats.{IsIn}
use Rattle.hg_place.specs.declared.standing.Standing.TheVariants.{Home}
use Rattle.hg_place.specs.Places.{page_of, index_of}
use Rattle.hg_place.specs.Plain.{plain_records}
use Rattle.hg_place.specs.Standings.{standing_at, standing_generation}
use Rattle.hg_size.specs.Sizes.{number_of_size}
use Rattle.hg_size.specs.SizeLaws.{key_of}
use Rattle.hg_segment.specs.Kept.{lists_at, no_lists, returned, slot, class_at}
use Rattle.hg_segment.specs.Parted.{plain_number}
use Rattle.hg_machine.specs.Lists.{Lists}
use Rattle.hg_machine.specs.State.{State, record_at}
use Rattle.hg_agreement.specs.Parts.{Parts, plain_from, lists_of, state_of, places_from}
use Rattle.hg_agreement.proofs.Told.{segments_are_told}
use Rattle.hg_parts.specs.Rights.{IsSegmentRight}
use Rattle.hg_parts.specs.Spots.{Spot, segment_at}
use Rattle.hg_parts.specs.Tidy.{IsTidy}
use Rattle.hg_choice.specs.ListsAfter.{came_home, all_home}
use Rattle.hg_choice.specs.QueuesAfter.{key_on, placed, all_placed}
use Rattle.hg_chosen.proofs.CameHome.{home_lists, home_placed, key_told}
use Rattle.hg_chosen.proofs.Comes.{K, CameIn, Comes}
use Rattle.hg_chosen.proofs.ListedSwaps.{with_one, before, inside}

-- the segment that stood there, or one that came after it by places that came home
pub record IsAfter (one mid : K) : Type 0 where
  pub number : plain_number mid.slots ≡ plain_number one.slots
  pub arena : mid.arena ≡ one.arena
  pub greatest : mid.greatest ≡ one.greatest
  pub classes : mid.classes ≡ one.classes
  pub pages : length mid.lists ≡ 16
  pub generations :
      (at : ℕ)
      → standing_generation (standing_at (plain_records mid.slots) at)
      ≡ standing_generation (standing_at (plain_records one.slots) at)

module _ (parts : Parts) (spot : Spot) (one : K) (hands : List (Option ℕ)) (t : IsTidy parts)
    (there : segment_at parts spot ≡ Some (plain_from one))
    (right : IsSegmentRight parts.policy (plain_from one)) where
  abbrev s : State
  s = state_of parts

  abbrev n : ℕ
  n = plain_number one.slots

  abbrev pub lists_with : K → Lists
  lists_with k = lists_of (with_one parts spot (plain_from one) hands t there (plain_from k))

  -- one place
  module _ (place : ℕ) (low : place < 8192) (mid next : K) (old new : List (List ℕ))
      (is : IsAfter one mid) (c : CameIn n place mid next old new) where
    abbrev page : ℕ
    page = page_of place

    abbrev index : ℕ
    index = index_of place

    abbrev q : ℕ
    q = n * 16 + page

    page_low : page < 16
    page_low = omega (arith, low)

    small : index < 512
    small = omega arith

    slot_is : slot page index ≡ place
    slot_is = omega arith

    place_is : q * 512 + index ≡ n * 8192 + place
    place_is = omega arith

    abbrev worn : Bool
    worn =
        standing_generation (standing_at (plain_records mid.slots) (slot page index))
        == mid.greatest

    home : lists_at next.lists page ≡ returned worn (lists_at mid.lists page) index
    home =
        ap (λ ls. lists_at ls page) c.went.lists
        ∙ get_or-set_same mid.lists page (returned worn (lists_at mid.lists page) index) no_lists
        (let all = is.pages in let in_page = page_low in omega (arith, all, in_page))

    keeps : (p : ℕ) → p < 16 → p ≢ page → lists_at next.lists p ≡ lists_at mid.lists p
    keeps p below ne =
        ap (λ ls. lists_at ls p) c.went.lists
        ∙ get_or-set_other mid.lists page p (returned worn (lists_at mid.lists page) index)
        no_lists ne

    record_is : (record_at s (n * 8192 + place)).generation
        ≡ standing_generation (standing_at (plain_records one.slots) place)
    record_is =
        ap (λ r. r.generation)
        ((segments_are_told parts n (plain_from one)
        (inside parts spot (plain_from one) hands t there)
        (before parts spot (plain_from one) hands t there)).records place low)

    worn_is : ((record_at s (q * 512 + index)).generation == s.policy.max_generation) ≡ worn
    worn_is =
        ap (λ p. (record_at s p).generation == parts.policy.max_generation) place_is
        ∙ ap (λ g. g == parts.policy.max_generation)
        (record_is ∙ sym (is.generations place)
        ∙ ap (λ at. standing_generation (standing_at (plain_records mid.slots) at)) (sym slot_is))
        ∙ ap (λ g. standing_generation (standing_at (plain_records mid.slots) (slot page index))
        == g) (sym (is.greatest ∙ right.greatest))

    -- the lists are those with it home
    pub lists_one : lists_with next ≡ came_home s (lists_with mid) (n * 8192 + place)
    lists_one =
        home_lists parts spot (plain_from one) hands t there (plain_from mid) (plain_from next)
        is.number c.number page index page_low small worn home keeps s worn_is
        ∙ ap (came_home s (lists_with mid)) place_is

    key_is : key_on s q ≡ Some (key_of mid.arena (number_of_size c.size))
    key_is =
        key_told parts spot (plain_from one) hands t there page page_low right.arena
        ∙ ap (λ cs. option_map (λ size. key_of one.arena (number_of_size size))
        (class_at cs page)) (sym is.classes)
        ∙ ap (option_map (λ size. key_of one.arena (number_of_size size))) c.class
        ∙ ap (λ a. Some (key_of a (number_of_size c.size))) (sym is.arena)

    -- and its page stands where it belongs
    pub queues_one : new
        ≡ placed (came_home s (lists_with mid) (n * 8192 + place)) (page_of (n * 8192 + place))
        (key_on s (page_of (n * 8192 + place))) old
    queues_one =
        c.queues
        ∙ sym
        (home_placed parts spot (plain_from one) hands t there (plain_from mid) (plain_from next)
        is.number c.number page index page_low small worn home keeps s
        (key_of mid.arena (number_of_size c.size)) old key_is)
        ∙ ap (λ p. placed (lists_with next) (page_of p) (key_on s (page_of p)) old) place_is
        ∙ ap (λ l. placed l (page_of (n * 8192 + place)) (key_on s (page_of (n * 8192 + place)))
        old) lists_one

    pub is_after : IsAfter one next
    is_after = record {
      number = c.number;
      arena = c.went.fixed.arena ∙ is.arena;
      greatest = c.went.fixed.greatest ∙ is.greatest;
      classes = c.went.fixed.classes ∙ is.classes;
      pages = ap length c.went.lists ∙ length-set mid.lists page _ ∙ is.pages;
      generations = λ at.
          let g : ℕ = standing_generation (standing_at (plain_records mid.slots)
          (slot page index)) in
          ap (λ rs. standing_generation (standing_at rs at)) c.went.took.home
          ∙ elim (cases_eq at (slot page index)) [
            | inl e ↦
                ap (λ k. standing_generation (standing_at (slice_set (plain_records mid.slots)
                (slot page index) (Home g)) k)) e
                ∙ ap standing_generation
                (get_or-set_same (plain_records mid.slots) (slot page index) (Home g) (Home 0)
                (let all = mid.slots.all_records in let at_slot = slot_is in
                omega (arith, low, all, at_slot)))
                ∙ ap (λ k. standing_generation (standing_at (plain_records mid.slots) k)) (sym e)
            | inr ne ↦ ap standing_generation
                (get_or-set_other (plain_records mid.slots) (slot page index) at (Home g)
                (Home 0) ne)
          ]
          ∙ is.generations at;
    }

  -- all of them
  pub lists_all : (places : List ℕ) (mid last : K) (old new : List (List ℕ))
      → ((x : ℕ) → IsIn x places → x < 8192) → IsAfter one mid
      → Comes n places mid last old new
      → (lists_with last ≡ all_home s (lists_with mid) (places_from (n * 8192) places))
      × (new ≡ all_placed s (lists_with mid) (places_from (n * 8192) places) old)
  lists_all [] mid last old new low is c = (ap lists_with c.0, c.1)
  lists_all (place ∷ places) mid last old new low is c =
      let next = c.0 in
      let here = low place (inl refl) in
      let rest =
      lists_all places next last c.1 new (λ x on. low x (inr on))
      (is_after place here mid next old c.1 is c.2) c.3 in
      let first = lists_one place here mid next old c.1 is c.2 in (
        rest.0
            ∙ ap (λ l. all_home s l (places_from (n * 8192) places)) first,
        rest.1
            ∙ ap (λ l. all_placed s l (places_from (n * 8192) places) c.1) first
            ∙ ap (all_placed s (came_home s (lists_with mid) (n * 8192 + place))
            (places_from (n * 8192) places)) (queues_one place here mid next old c.1 is c.2),
      )
