-- A Free of a live block of a segment that the worker doesn't hold is a step of the machine, and
-- leaves tidy parts tidy.
use Rattle.std.proofs.Common.{◌≡◌, ℕ, ◌+◌, ◌*◌, ◌-◌, ◌<◌, true, false, List, length, map, slice_set}
use Rattle.std.proofs.Common.{slice_index_or, refl, sym, ap, ◌∙◌, arith, subst, if◌then◌else◌}
use Rattle.std.specs.Prelude.{Option, Some, None, MatchOption}
use Rattle.std.proofs.lemmas.List.{length-map}
use Rattle.hg_place.specs.declared.Actor.{Actor}
use Rattle.hg_place.specs.declared.Handle.{Handle}
use Rattle.hg_place.specs.declared.Place.{Place}
use Rattle.hg_place.specs.declared.standing.Standing.{Standing}
use Rattle.hg_place.specs.Places.{number_of}
use Rattle.hg_place.specs.Plain.{plain_words, plain_records}
use Rattle.hg_place.specs.Slots.{slot_in}
use Rattle.hg_place.specs.Standings.{slot_of}
use Rattle.hg_segment.specs.Parted.{Parted, plain_number}
use Rattle.hg_heap.specs.Reading.{use_denial}
use Rattle.hg_heap.proofs.Looking.{slot_below}
use Rattle.hg_machine.specs.declared.Answer.{Answer}
use Rattle.hg_machine.specs.Changes.{part}
use Rattle.hg_machine.specs.Denial.{denial}
use Rattle.hg_machine.specs.Holders.{holds}
use Rattle.hg_machine.specs.Life.{Record}
use Rattle.hg_machine.specs.Refusal.{denial_or, refusal}
use Rattle.hg_machine.specs.SoundPolicy.{IsSoundPolicy}
use Rattle.hg_machine.specs.State.{State, record_at, with_record, hand_of}
use Rattle.hg_machine.specs.Steps.{Step, successor}
use Rattle.hg_machine.proofs.Allowed.{parts as allowed_parts}
use Rattle.hg_agreement.specs.Parts.{Plain, Parts, plain_from, plain_of, record_by, state_of}
use Rattle.hg_agreement.proofs.Told.{segments_are_told}
use Rattle.hg_parts.specs.Rights.{IsSegmentRight}
use Rattle.hg_parts.specs.Spots.{Spot, segment_at, with_segment, IsSpotPut}
use Rattle.hg_parts.specs.Tidy.{IsTidy}
use Rattle.hg_parts.proofs.SpotChanges.{parted_out}
use Rattle.hg_parts.proofs.SpotPuts.{spot_found, spot_put}
use Rattle.hg_events.specs.Core.{Core, parts_of}
use Rattle.hg_events.specs.Elsewhere.{word_by, word_at}
use Rattle.hg_events.specs.PartedAway.{MayPart}
use Rattle.hg_events.proofs.Elsewhere.{away_holds, busy}
use Rattle.hg_events.proofs.PartedPlain.{parted_at, Fit, parted_right, parted_others, was_live}
use Rattle.hg_events.proofs.PartedPlain.{now_parted, parted_record}
use Rattle.hg_events.proofs.PlainLists.{K}
use Rattle.hg_events.proofs.WordAt.{one_right, word_denies}
use Rattle.hg_place.specs.declared.Right.TheVariants as right
use Rattle.hg_machine.specs.declared.Answer.TheVariants as answer
use Rattle.hg_machine.specs.declared.Event.TheVariants as event

of_none : (o : Option Answer) (P : Type 0) (Q : Answer → Type 0) → o ≡ None → P
    → MatchOption o P Q
of_none None P Q none p = p
of_none (Some refused) P Q none p = absurd (cc)

-- the segment that has the block parted, in the parts
pub now_is : (place : Place) (word : ℕ) (before after : K) → Parted place word before after
    → plain_from after ≡ parted_at (plain_from before) (slot_of place)
now_is place word before after parted =
    let at = slot_of place in
    let build : ℕ → List Standing → List ℕ → Plain = λ number records words. record {
      arena = before.arena;
      greatest = before.greatest;
      holding = record {
        number = number;
        standings = records;
        classes = before.classes;
        words = before.words;
      };
      slots = words;
      lists = before.lists;
    } in
    ap plain_from parted.rest
    ∙ ap (λ n. build n (plain_records after.slots) (plain_words after.slots)) parted.number
    ∙ ap (λ rs. build before.slots.segment rs (plain_words after.slots)) parted.records
    ∙ ap (build before.slots.segment (plain_records before.slots))
    (parted.ended
    ∙ ap (λ w. slice_set (plain_words before.slots) at (w - 1)) (sym parted.stood))

module _ (core : Core) (worker : ℕ) (actor : Actor) (handle : Handle) (word : ℕ)
    (policy : IsSoundPolicy core.policy) (t : IsTidy (parts_of core))
    (may : MayPart core worker actor handle word) (spot : Spot) (before after : K)
    (there : segment_at (parts_of core) spot ≡ Some (plain_from before))
    (own : plain_number before.slots ≡ handle.place.segment)
    (parted : Parted handle.place word before after) where
  abbrev parts : Parts
  parts = parts_of core

  abbrev s : State
  s = state_of parts

  abbrev at : ℕ
  at = slot_of handle.place

  abbrev q : ℕ
  q = number_of handle.place

  abbrev one : Plain
  one = plain_from before

  abbrev now : Plain
  now = parted_at one at

  abbrev hands : List (Option ℕ)
  hands = slice_set core.hands worker (Some q)

  found : (one.holding.number < length core.policy.segments)
      × (plain_of parts one.holding.number ≡ Some one)
  found = spot_found parts spot one t there

  place_is : one.holding.number * 8192 + at ≡ q
  place_is = omega (arith, own)

  low : at < 8192
  low = slot_below handle.place

  inside : at < length one.slots
  inside = omega (arith, low, before.slots.all_words)

  alive : (slot_in (slice_index_or one.slots at 0)).live ≡ true
  alive =
      ap (λ w. (slot_in w).live) parted.stood
      ∙ (allowed_parts core.policy actor.0 right.Free handle.place.segment handle.generation
      (slot_in word) may.undenied).2

  fits : (other : ℕ) → other < 8192 → Fit now other
  fits other below =
      subst (λ (x : Plain). Fit x other) (now_is handle.place word before after parted)
      (after.slots.fit other below)

  right_one : IsSegmentRight core.policy one
  right_one = one_right parts one.holding.number one t found.1

  put : IsSpotPut parts spot one now at
  put = record {
    swap = record {
      there = there;
      number = refl;
      right = parted_right core.policy one at right_one fits;
    };
    below = low;
    others = λ other below ne. parted_others one at other ne;
  }

  abbrev pub away : Parts
  away = with_segment parts spot now hands

  has_hand : worker < length core.hands
  has_hand = omega (
    arith,
    may.away.below,
    t.segments.heaps,
    t.segments.hands,
    length-map core.heaps (λ held. map plain_from held.segments),
  )

  pub away_tidy : IsTidy away
  away_tidy =
      subst (λ (k : ℕ). IsTidy (with_segment parts spot now
      (slice_set core.hands worker (Some k)))) place_is
      (parted_out parts spot one now at worker t put has_hand may.empty
      (was_live core.policy one at right_one low inside alive)
      (now_parted core.policy one at right_one low inside alive))

  -- the machine's state after it is theirs
  record_was : record_at s q ≡ record_by (Some one) at
  record_was =
      ap (record_at s) (sym place_is)
      ∙ (segments_are_told parts one.holding.number one found.0 found.1).records at low

  record_now : record_by (Some now) at
      ≡ record { generation = (record_at s q).generation; life = part (record_at s q).life }
  record_now =
      parted_record core.policy one at right_one low inside alive
      ∙ ap (λ (r : Record). let x : Record = record {
        generation = r.generation;
        life = part r.life;
      } in x) (sym record_was)

  after_is : state_of away ≡ successor s worker (event.Free actor handle) answer.Parted
  after_is =
      spot_put parts spot one now at hands t put (λ page below. refl)
      ∙ ap (λ (k : ℕ). let x : State = record (with_record s k (record_by (Some now) at)) {
        hands = hands;
      } in x) place_is
      ∙ ap (λ (r : Record). let x : State = record (with_record s q r) { hands = hands } in x)
      record_now

  -- nothing refuses the Free
  word_is : word_at core handle.place ≡ word
  word_is =
      ap (λ (o : Option Plain). word_by o at) (ap (plain_of parts) (sym own) ∙ found.1)
      ∙ parted.stood

  unheld : holds s worker handle.place.segment ≡ false
  unheld = away_holds core worker handle.place.segment t may.away

  undenied : denial s actor.0 right.Free handle.place handle.generation ≡ None
  undenied =
      sym (word_denies core handle.place policy t actor.0 right.Free handle.generation)
      ∙ ap (use_denial core.policy actor.0 right.Free handle) word_is
      ∙ may.undenied

  unrefused : refusal s worker (event.Free actor handle) ≡ None
  unrefused =
      ap (λ o. denial_or o (busy (holds s worker handle.place.segment) (hand_of s worker)))
      undenied
      ∙ ap (λ b. denial_or None (busy b (hand_of s worker))) unheld
      ∙ ap (λ o. denial_or None (busy false o)) may.empty

  pub away_step : Step s worker (event.Free actor handle) answer.Parted (state_of away)
  away_step =
      of_none (refusal s worker (event.Free actor handle)) _
      (λ refused. (answer.Parted ≡ refused) × (state_of away ≡ s)) unrefused
      (sym (ap (λ b. if b then answer.Done else answer.Parted) unheld), after_is)
