-- What a call on a worker's own heap leaves of a core: the machine's next state, and tidy parts.
use Rattle.std.proofs.Common.{◌≡◌, ◌≢◌, ℕ, ◌+◌, ◌*◌, ◌/◌, ◌<◌, List, length, map, slice_set}
use Rattle.std.proofs.Common.{slice_index_or, sym, ap, ◌∙◌, arith, subst, inl, inr}
use Rattle.std.specs.Prelude.{Option, Some, None}
use Rattle.std.proofs.lemmas.Bool.{cases_eq}
use Rattle.std.proofs.lemmas.List.{get_or-set_other, get_or-set_same, map-set}
use Rattle.hg_place.specs.declared.Place.{Place}
use Rattle.hg_place.specs.declared.plain.PlainWords.{PlainWords}
use Rattle.hg_place.specs.Places.{number_of, page_number}
use Rattle.hg_place.specs.Plain.{plain_words, plain_records}
use Rattle.hg_place.specs.Slots.{slot_in}
use Rattle.hg_place.specs.Standings.{slot_of, standing_at}
use Rattle.hg_segment.specs.Kept.{Kept}
use Rattle.hg_segment.specs.Parted.{plain_number}
use Rattle.hg_machine.specs.declared.Event.{Event}
use Rattle.hg_machine.specs.declared.Answer.{Answer}
use Rattle.hg_machine.specs.Life.{Record, never_used, is_parted, contents_of}
use Rattle.hg_machine.specs.SoundPolicy.{IsSoundPolicy}
use Rattle.hg_machine.specs.State.{State, record_at, class_at}
use Rattle.hg_machine.specs.Steps.{Step, successor}
use Rattle.hg_heap.specs.Held.{Held}
use Rattle.hg_heap.specs.Ties.{Stepped}
use Rattle.hg_heap.proofs.Looking.{slot_below}
use Rattle.hg_agreement.specs.Agreement.{standing_of}
use Rattle.hg_agreement.specs.Holdings.{block_of, class_of}
use Rattle.hg_agreement.specs.Parts.{Parts, plain_from, heap_at, record_by, state_of}
use Rattle.hg_agreement.proofs.Told.{segments_are_told}
use Rattle.hg_parts.specs.Spots.{in_heap, with_segment, IsSpotPut}
use Rattle.hg_parts.specs.Tidy.{IsTidy}
use Rattle.hg_parts.proofs.SpotChanges.{same_out}
use Rattle.hg_parts.proofs.SpotPuts.{heap_put}
use Rattle.hg_events.specs.Core.{Core, parts_of, heap_of}
use Rattle.hg_events.specs.Own.{with_heap, IsOwnCall, IsServedBy}
use Rattle.hg_events.specs.Take.{plain_shows, plain_steps}
use Rattle.hg_events.proofs.CoreHeaps.{requeued_tidy, heap_is, plain_is, inside}
use Rattle.hg_events.proofs.SegmentSeen.{kept, AreSeen, seen}
use Rattle.hg_events.proofs.ChangedAt.{IsChangedAt, told_alike, told_is}
use Rattle.hg_events.proofs.OwnStepped.{number, place_is, agrees_before, own_follows, one_in, now_in, swap, sound, now_word}

module _ {core : Core} {worker : ℕ} {place : Place} {word left : ℕ} {event : Event}
    {answer : Answer} {heap : Held PlainWords} {entry : Record}
    (policy : IsSoundPolicy core.policy) (t : IsTidy (parts_of core))
    (own : IsOwnCall core worker place word left event answer heap)
    (changed :
    IsChangedAt (state_of (parts_of core)) (successor (state_of (parts_of core)) worker event answer)
    place entry) where
  abbrev parts : Parts
  parts = parts_of core

  abbrev m : State
  m = state_of parts

  abbrev next : State
  next = successor m worker event answer

  abbrev at : ℕ
  at = slot_of place

  abbrev stepped : Stepped plain_number plain_shows plain_steps place word left
      (heap_of core worker).segments heap.segments
  stepped = own.stepped

  abbrev one : Kept PlainWords
  one = stepped.before

  abbrev now : Kept PlainWords
  now = stepped.after

  abbrev n : ℕ
  n = plain_number one.slots

  abbrev hand : Option ℕ
  hand = slice_index_or core.hands worker None

  same_number : plain_number now.slots ≡ n
  same_number = number policy t own

  its_place : n * 8192 + at ≡ number_of place
  its_place = place_is policy t own

  one_seen : AreSeen m one
  one_seen = seen core.policy worker hand (heap_of core worker).segments
      (agrees_before policy t own) (one_in policy t own)

  now_seen : AreSeen next now
  now_seen = seen core.policy worker hand heap.segments (own_follows policy t own).agrees
      (now_in policy t own)

  record_same : (other : ℕ) → other < 8192 → other ≢ at
      → record_at next (plain_number now.slots * 8192 + other) ≡ record_at m (n * 8192 + other)
  record_same other small ne =
      let away : n * 8192 + other ≢ number_of place =
      λ e. ne (let p = its_place in omega (arith, e, p)) in
      ap (λ k. record_at next (k * 8192 + other)) same_number
      ∙ ap (λ (s : State). record_at s (n * 8192 + other)) changed.is
      ∙ get_or-set_other m.records (number_of place) (n * 8192 + other) entry never_used away

  others : (other : ℕ) → other < 8192 → other ≢ at
      → record_by (Some (plain_from now)) other ≡ record_by (Some (plain_from one)) other
  others other small ne =
      let same = record_same other small ne in
      told_alike
      (sym (now_seen.standings other small) ∙ ap standing_of same
      ∙ one_seen.standings other small)
      (ap (λ ws. slice_index_or ws other 0) stepped.stepped
      ∙ get_or-set_other (plain_words one.slots) at other left 0 ne)
      (sym (now_seen.blocks other small) ∙ ap (λ (r : Record). contents_of r.life) same
      ∙ one_seen.blocks other small)

  pub put : IsSpotPut parts (in_heap worker stepped.found) (plain_from one) (plain_from now) at
  put = record { swap = swap policy t own; below = slot_below place; others = others }

  -- what is told of the place itself
  n_inside : n < length core.policy.segments
  n_inside = inside core worker t own.below stepped.found one stepped.at

  pub one_record : record_by (Some (plain_from one)) at ≡ record_at m (number_of place)
  one_record =
      sym ((segments_are_told parts n (plain_from one) n_inside
      (plain_is core worker t own.below stepped.found one stepped.at)).records at
      (slot_below place))
      ∙ ap (record_at m) its_place

  place_now : plain_number now.slots * 8192 + at ≡ number_of place
  place_now = ap (λ k. k * 8192 + at) same_number ∙ its_place

  pub now_record : record_by (Some (plain_from now)) at ≡ entry
  now_record =
      let low = slot_below place in
      let all = (sound policy t own).whole.records in
      let lt = n_inside in
      let p = its_place in
      told_is (record_at next (number_of place)) (standing_at (plain_records now.slots) at)
      (slice_index_or (plain_words now.slots) at 0) (block_of (kept now) at)
      (ap (λ k. standing_of (record_at next k)) (sym place_now) ∙ now_seen.standings at low)
      (ap (λ k. contents_of (record_at next k).life) (sym place_now) ∙ now_seen.blocks at low)
      (ap (λ w. (slot_in w).live) (now_word policy t own) ∙ (own_follows policy t own).agrees.word.live)
      ∙ ap (λ (s : State). record_at s (number_of place)) changed.is
      ∙ get_or-set_same m.records (number_of place) entry never_used (omega (arith, lt, all, p, low))

  -- its page has the class that the segment says
  page_is : n * 16 + at / 512 ≡ page_number place
  page_is = let e = stepped.segment in let b = place.index_below in omega (arith, e, b)

  classes : (page : ℕ) → page < 16 → page ≢ at / 512
      → class_of (kept now) page ≡ class_of (kept one) page
  classes page small ne =
      let away : n * 16 + page ≢ page_number place =
      λ e. ne (let p = page_is in omega (arith, e, p)) in
      sym (now_seen.classes page small)
      ∙ ap (λ k. class_at next (k * 16 + page)) same_number
      ∙ ap (λ (s : State). class_at s (n * 16 + page)) changed.is
      ∙ get_or-set_other m.classes (page_number place) (n * 16 + page) changed.class None away
      ∙ one_seen.classes page small

  class_is : class_of (kept now) (at / 512) ≡ changed.class
  class_is =
      let small = slot_below place in
      let all = (sound policy t own).whole.classes in
      let lt = n_inside in
      let p = page_is in
      sym (now_seen.classes (at / 512) (omega (arith, small)))
      ∙ ap (class_at next) (ap (λ k. k * 16 + at / 512) same_number ∙ page_is)
      ∙ ap (λ (s : State). class_at s (page_number place)) changed.is
      ∙ get_or-set_same m.classes (page_number place) changed.class None
      (omega (arith, lt, all, p, small))

  -- the parts that come, but for the queues
  abbrev new_parts : Parts
  new_parts = with_segment parts (in_heap worker stepped.found) (plain_from now) parts.hands

  state_new : state_of new_parts ≡ next
  state_new =
      let h = heap_put parts worker stepped.found (plain_from one) (plain_from now) at t put
      classes in
      cc (h, its_place, now_record, page_is, class_is, changed.is)

  abbrev queues : List (List (List ℕ))
  queues = map (λ held. held.queues) (slice_set core.heaps worker heap)

  parts_new : parts_of (with_heap core worker heap) ≡ record new_parts { queues = queues }
  parts_new =
      let in_segments : map plain_from heap.segments
      ≡ slice_set (heap_at parts worker) stepped.found (plain_from now) =
      ap (map plain_from) stepped.now
      ∙ map-set plain_from (heap_of core worker).segments stepped.found now
      ∙ ap (λ h. slice_set h stepped.found (plain_from now)) (sym (heap_is core worker own.below))
      in
      ap (λ hs. record parts { heaps = hs; queues = queues })
      (map-set (λ held. map plain_from held.segments) core.heaps worker heap
      ∙ ap (slice_set parts.heaps worker) in_segments)

  -- so the call is a step to that core, if the parts are tidy
  pub served : IsTidy new_parts → IsServedBy core worker event answer (with_heap core worker heap)
  served tidy = (
    subst (Step m worker event answer) (sym (ap state_of parts_new ∙ state_new))
        (own_follows policy t own).step,
    subst IsTidy (sym parts_new) (requeued_tidy queues tidy),
  )

  -- as they are where the place is parted after as before
  pub own_is_served : is_parted entry.life ≡ is_parted (record_at m (number_of place)).life
      → IsServedBy core worker event answer (with_heap core worker heap)
  own_is_served same =
      served (same_out parts (in_heap worker stepped.found) (plain_from one) (plain_from now) t
      (swap policy t own) (λ other small. elim (cases_eq other at) [
        | inl e ↦ rw e (ap (λ (r : Record). is_parted r.life) now_record ∙ same
            ∙ sym (ap (λ (r : Record). is_parted r.life) one_record))
        | inr ne ↦ ap (λ (r : Record). is_parted r.life) (others other small ne)
      ]))
