-- The step of a call on a worker's own heap, and what it leaves of its segment.
use Rattle.std.proofs.Common.{◌≡◌, ℕ, ◌+◌, ◌*◌, ◌<◌, List, slice_get, slice_set, slice_index_or}
use Rattle.std.proofs.Common.{refl, sym, ap, ◌∙◌, arith, subst}
use Rattle.std.specs.Prelude.{Option, Some, None}
use Rattle.std.proofs.lemmas.List.{get_or-set_same, length-set}
use Rattle.std.proofs.lemmas.Grind.{get_or-set_at}
use Rattle.std.proofs.lemmas.Option.{slice_get-get_or, slice_get_within}
use Rattle.hg_lists.specs.Repeats.{HasNoRepeats}
use Rattle.hg_place.specs.declared.Place.{Place}
use Rattle.hg_place.specs.declared.plain.PlainWords.{PlainWords}
use Rattle.hg_place.specs.Places.{number_of}
use Rattle.hg_place.specs.Plain.{plain_words, plain_records}
use Rattle.hg_place.specs.Standings.{slot_of}
use Rattle.hg_segment.specs.Kept.{Kept}
use Rattle.hg_segment.specs.Parted.{plain_number}
use Rattle.hg_machine.specs.declared.Event.{Event}
use Rattle.hg_machine.specs.declared.Answer.{Answer}
use Rattle.hg_machine.specs.Policy.{arena_of}
use Rattle.hg_machine.specs.SoundPolicy.{IsSoundPolicy}
use Rattle.hg_machine.specs.Soundness.{IsSound}
use Rattle.hg_machine.specs.State.{State}
use Rattle.hg_heap.specs.Held.{Held, Kind, segment_in}
use Rattle.hg_heap.specs.Ties.{Stepped, heap_view, shown_at}
use Rattle.hg_heap.proofs.Allotting.{found_once}
use Rattle.hg_heap.proofs.Founds.{Contains-get, numbers_same, numbers as numbers_in}
use Rattle.hg_heap.proofs.Looking.{slot_below}
use Rattle.hg_agreement.specs.Agreement.{Agrees, Follows}
use Rattle.hg_agreement.specs.Parts.{Parts, plain_from, heap_at, state_of, IsWordIn}
use Rattle.hg_parts.specs.Rights.{IsSegmentRight}
use Rattle.hg_parts.specs.Spots.{in_heap, IsSpotSwap}
use Rattle.hg_parts.specs.Tidy.{IsTidy}
use Rattle.hg_parts.proofs.Links.{settled_right}
use Rattle.hg_parts.proofs.Sound.{tidy_sound}
use Rattle.hg_parts.proofs.SpotPuts.{spot_shows}
use Rattle.hg_events.specs.Core.{Core, parts_of, heap_of}
use Rattle.hg_events.specs.Own.{IsOwnCall}
use Rattle.hg_events.specs.Take.{plain_shows, plain_steps}
use Rattle.hg_events.proofs.CoreHeaps.{one_right, spot as spot_of, is_worker, heap_agrees}
use Rattle.hg_events.proofs.Told.{held_once}

-- what stands where it was put
get_set : (xs : List (Kept PlainWords)) (found : ℕ) (one now : Kept PlainWords)
    → slice_get xs found ≡ Some one → slice_get (slice_set xs found now) found ≡ Some now
get_set xs found one now at =
    let below = slice_get_within xs found one at in
    slice_get-get_or (slice_set xs found now) found now
    (subst (λ n. found < n) (sym (length-set xs found now)) below)
    ∙ ap Some (get_or-set_at xs found found now now refl below)

-- the step of the worker's own segment
module _ {core : Core} {worker : ℕ} {place : Place} {word left : ℕ} {event : Event}
    {answer : Answer} {heap : Held PlainWords} (policy : IsSoundPolicy core.policy)
    (t : IsTidy (parts_of core))
    (own : IsOwnCall core worker place word left event answer heap) where
  abbrev parts : Parts
  parts = parts_of core

  abbrev m : State
  m = state_of parts

  abbrev old : List (Kept PlainWords)
  old = (heap_of core worker).segments

  abbrev at : ℕ
  at = slot_of place

  abbrev stepped : Stepped plain_number plain_shows plain_steps place word left old heap.segments
  stepped = own.stepped

  abbrev one : Kept PlainWords
  one = stepped.before

  abbrev now : Kept PlainWords
  now = stepped.after

  abbrev n : ℕ
  n = plain_number one.slots

  pub low : at < 8192
  low = slot_below place

  pub there : slice_get (heap_at parts worker) stepped.found ≡ Some (plain_from one)
  there = spot_of core worker t own.below stepped.found one stepped.at

  -- the segment of its number before, and after
  pub one_in : segment_in plain_number old n ≡ Some one
  one_in =
      found_once plain_number plain_records old stepped.found one (held_once core t worker)
      stepped.at

  pub number : plain_number now.slots ≡ n
  number = ap (λ (k : Kind). k.number) stepped.kind

  now_at : slice_get heap.segments stepped.found ≡ Some now
  now_at =
      ap (λ ks. slice_get ks stepped.found) stepped.now
      ∙ get_set old stepped.found one now stepped.at

  pub now_in : segment_in plain_number heap.segments (plain_number now.slots) ≡ Some now
  now_in =
      found_once plain_number plain_records heap.segments stepped.found now
      (subst HasNoRepeats
      (sym (ap (numbers_in plain_number) stepped.now
      ∙ numbers_same plain_number old stepped.found one now stepped.at number))
      (held_once core t worker))
      now_at

  pub now_right : IsSegmentRight core.policy (plain_from now)
  now_right =
      let was = one_right core worker t own.below stepped.found one stepped.at in
      settled_right core.policy now
      (ap (arena_of core.policy) number ∙ was.arena
      ∙ ap (λ (k : Kind). Some k.arena) (sym stepped.kind))
      (ap (λ (k : Kind). k.greatest) stepped.kind ∙ was.greatest)
      (own.settled now (Contains-get heap.segments stepped.found now now_at))

  pub swap : IsSpotSwap parts (in_heap worker stepped.found) (plain_from one) (plain_from now)
  swap = record { there = there; number = number; right = now_right }

  pub place_is : n * 8192 + at ≡ number_of place
  place_is = let e = stepped.segment in omega (arith, e)

  pub one_word : slice_index_or (plain_words one.slots) at 0 ≡ word
  one_word = sym stepped.shown

  pub now_word : slice_index_or (plain_words now.slots) at 0 ≡ left
  now_word =
      ap (λ ws. slice_index_or ws at 0) stepped.stepped
      ∙ get_or-set_same (plain_words one.slots) at left 0
      (let all = one.slots.all_words in omega (arith, low, all))

  -- the state agrees before
  abbrev hand : Option ℕ
  hand = slice_index_or core.hands worker None

  pub sound : IsSound m
  sound = (tidy_sound parts policy t).0

  shown_is : IsWordIn parts (record { place = number_of place; word = word })
  shown_is =
      subst (λ p. IsWordIn parts (record { place = p; word = word })) place_is
      (subst (λ w. IsWordIn parts (record { place = n * 8192 + at; word = w })) one_word
      (spot_shows parts (in_heap worker stepped.found) (plain_from one) at t there low))

  pub agrees_before : Agrees m
      (heap_view plain_number plain_records core.policy worker hand 0 old) (shown_at place word)
  agrees_before = heap_agrees core worker t own.below policy (shown_at place word) shown_is

  -- and what the machine makes of the call with what the step left
  pub own_follows : Follows m worker event answer
      (heap_view plain_number plain_records core.policy worker hand 0 heap.segments)
      (shown_at place left)
  own_follows = own.ties worker hand 0 (is_worker core worker t own.below) m agrees_before
