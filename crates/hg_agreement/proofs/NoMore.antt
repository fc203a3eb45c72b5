-- What the witness state tells beyond the agreement: nothing.
use Rattle.std.proofs.Common.{◌≡◌, ℕ, ◌+◌, ◌*◌, ◌<◌, ◌≤◌, Bool, true, false, cond, not, ◌&&◌, ◌||◌}
use Rattle.std.proofs.Common.{if◌then◌else◌, ◌∷◌, [], List, filter, length, replicate, Option, Some}
use Rattle.std.proofs.Common.{None, refl, sym, ap, ◌∙◌, arith, zero, suc}
use Rattle.std.specs.List.{range_with_len}
use Rattle.std.proofs.lemmas.Bool.{true≢false, or_from}
use Rattle.std.proofs.lemmas.List.FromFn.{get_or-map-range_with_len}
use Rattle.std.proofs.lemmas.List.{get_or-set_other}
use Rattle.hg_place.specs.Places.{segment_of, segment_of_page}
use Rattle.hg_place.specs.Slots.{Slot}
use Rattle.hg_place.specs.Standings.{is_home as at_home}
use Rattle.hg_machine.specs.Life.{home, live, parted, never_used, is_home, is_live, contents_of}
use Rattle.hg_machine.specs.State.{fresh, orphan, held, record_at, class_at}
use Rattle.hg_machine.specs.Holders.{is_number}
use Rattle.hg_machine.proofs.Opening.{all_same}
use Rattle.hg_agreement.specs.Views.{View, Shown, slot_shown}
use Rattle.hg_agreement.specs.Witness.{record_held, record_elsewhere, one_word, is_shown_at, is_on}
use Rattle.hg_agreement.specs.Witness.{is_shown_on, other_record, is_ended, record_in, class_in}
use Rattle.hg_agreement.specs.Witness.{holder_in, witness}
use Rattle.hg_agreement.specs.WitnessLaws.{IsUntold, WitnessTellsNoMore}
use Rattle.hg_agreement.specs.Pool.{IsRising}
use Rattle.hg_agreement.proofs.HeldLives.{held_live}
use Rattle.hg_agreement.proofs.Observed.{number_is}

-- a filter of a range rises
rising_from : (low high : ℕ) (xs : List ℕ) → low ≤ high → IsRising high xs → IsRising low xs
rising_from low high [] less r = tt
rising_from low high (x ∷ xs) less r = ((let a = r.0 in omega arith), r.1)

rising_filter : (p : ℕ → Bool) (a n : ℕ) → IsRising a (filter p (range_with_len a n))
rising_filter p a zero = tt
rising_filter p a (suc n) =
    elim (p a) as (λ b. IsRising a (cond b (a ∷ filter p (range_with_len (a + 1) n))
    (filter p (range_with_len (a + 1) n)))) [
      | true ↦ (omega arith, rising_filter p (a + 1) n)
      | false ↦ rising_from a (a + 1) (filter p (range_with_len (a + 1) n)) (omega arith)
          (rising_filter p (a + 1) n)
    ]

other_words : (in_hand at : Bool) (slot : Slot) (g : ℕ)
    → is_home (other_record in_hand at slot g).life ≡ false
    → contents_of (other_record in_hand at slot g).life ≡ one_word
other_words true true slot g used = refl
other_words true false slot g used = refl
other_words false true slot g used = told slot.live slot.owner used where
  told : (b : Bool) (o : ℕ) → is_home (if b then live o one_word else home) ≡ false
      → contents_of (if b then live o one_word else home) ≡ one_word
  told true o e = refl
  told false o e = absurd (true≢false e)
other_words false false slot g used = absurd (true≢false used)

freed_home : (in_hand at : Bool) (slot : Slot) (g : ℕ) → in_hand ≡ false → at ≡ true
    → slot.live ≡ false → is_home (other_record in_hand at slot g).life ≡ true
freed_home true at slot g e f dead = absurd (true≢false e)
freed_home false false slot g e f dead = absurd (true≢false (sym f))
freed_home false true slot g e f dead =
    ap (λ b. is_home (if b then live slot.owner one_word else home)) dead

module _ (view : View) (shown : Option Shown) where
  n : ℕ
  n = length view.policy.segments

  record_is : (q : ℕ) → q < n * 8192 → record_at (witness view shown) q ≡ record_in view shown q
  unfolding n
  record_is q below =
      get_or-map-range_with_len (record_in view shown) 0 (length view.policy.segments * 8192) q q
      never_used below (omega arith)

  held_is : (q : ℕ) → q < n * 8192 → view.holds (segment_of q) ≡ true
      → record_at (witness view shown) q ≡ record_held view shown q
  held_is q below h =
      record_is q below
      ∙ ap (λ b. if b then record_held view shown q else record_elsewhere view shown q) h

  other_is : (q : ℕ) → q < n * 8192 → view.holds (segment_of q) ≡ false
      → record_at (witness view shown) q ≡ record_elsewhere view shown q
  other_is q below h =
      record_is q below
      ∙ ap (λ b. if b then record_held view shown q else record_elsewhere view shown q) h

  lives : (q : ℕ) → q < n * 8192 → view.holds (segment_of q) ≡ true
      → at_home (view.standing q) ≡ false → IsUntold view shown q
      → is_live (record_at (witness view shown) q).life ≡ true
  lives q below h out untold =
      let never : is_ended view shown q ≡ false =
      or_from _ _ untold.not_in_hand
      (ap (λ b. b && not (slot_shown shown).live) untold.not_shown) in
      ap (λ r. is_live r.life) (held_is q below h)
      ∙ held_live (is_ended view shown q) (view.standing q) (view.block q) out
      ∙ ap not never

  in_hand_is : (q : ℕ) → q < n * 8192 → view.holds (segment_of q) ≡ false → view.hand ≡ Some q
      → is_shown_at shown q ≡ false → record_at (witness view shown) q
      ≡ record { generation = view.hand_generation; life = parted 0 one_word }
  in_hand_is q below h e f =
      other_is q below h
      ∙ ap (λ b. other_record b (is_shown_at shown q) (slot_shown shown) view.hand_generation)
      (number_is q view.hand e)
      ∙ ap (λ b. other_record true b (slot_shown shown) view.hand_generation) f

  unused_is : (q : ℕ) → q < n * 8192 → view.holds (segment_of q) ≡ false → IsUntold view shown q
      → record_at (witness view shown) q ≡ never_used
  unused_is q below h untold =
      other_is q below h
      ∙ ap (λ b. other_record b (is_shown_at shown q) (slot_shown shown) view.hand_generation)
      untold.not_in_hand
      ∙ ap (λ b. other_record false b (slot_shown shown) view.hand_generation) untold.not_shown

  words_are : (q : ℕ) → q < n * 8192 → view.holds (segment_of q) ≡ false
      → is_home (record_at (witness view shown) q).life ≡ false
      → contents_of (record_at (witness view shown) q).life ≡ one_word
  words_are q below h used =
      let is = other_is q below h in
      ap (λ r. contents_of r.life) is
      ∙ other_words (is_number q view.hand) (is_shown_at shown q) (slot_shown shown)
      view.hand_generation (sym (ap (λ r. is_home r.life) is) ∙ used)

  class_is : (page : ℕ) → page < n * 16 → view.holds (segment_of_page page) ≡ false
      → (is_on page view.hand || is_shown_on page shown) ≡ false
      → class_at (witness view shown) page ≡ None
  unfolding n
  class_is page below h e =
      get_or-map-range_with_len (class_in view shown) 0 (length view.policy.segments * 16) page page
      None below (omega arith)
      ∙ ap (λ b. if b then view.class page else if is_on page view.hand || is_shown_on page shown
      then Some 1 else None) h
      ∙ ap (λ b. if b then Some 1 else None) e

pub witness_tells_no_more : WitnessTellsNoMore
unfolding n
witness_tells_no_more view shown = record {
  alive = λ q below h out untold. lives view shown q below h out untold;
  elsewhere = λ q below h. record {
    in_hand = λ e f. in_hand_is view shown q below h e f;
    words = λ used. words_are view shown q below h used;
    freed = λ a b c. ap (λ r. is_home r.life) (other_is view shown q below h)
        ∙ freed_home (is_number q view.hand) (is_shown_at shown q) (slot_shown shown)
        view.hand_generation a b c;
    unused = λ untold. unused_is view shown q below h untold;
  };
  classes = λ page below h e. class_is view shown page below h e;
  orphans = λ segment below h.
      get_or-map-range_with_len (holder_in view) 0 (length view.policy.segments) segment segment
      fresh below (omega arith)
      ∙ ap (λ b. if b then held view.worker else orphan) h;
  order = rising_filter (λ segment. not (view.holds segment)) 0 (length view.policy.segments);
  hands = λ worker ne.
      get_or-set_other (replicate view.policy.workers None) view.worker worker view.hand None ne
      ∙ all_same view.policy.workers worker None;
}
