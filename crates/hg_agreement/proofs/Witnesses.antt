-- The witness state agrees.
use Rattle.std.proofs.Common.{◌≡◌, ℕ, inl, inr, Bool, true, false, not, Option, Some, None, IfSome}
use Rattle.std.proofs.Common.{refl, sym, ap, subst, ◌∙◌}
use Rattle.std.proofs.lemmas.Bool.{cases_Bool, eq-eqb}
use Rattle.hg_place.specs.Places.{segment_of}
use Rattle.hg_place.specs.Slots.{slot_in}
use Rattle.hg_place.specs.Standings.{is_home as at_home}
use Rattle.hg_machine.specs.Life.{contents_of}
use Rattle.hg_machine.specs.State.{record_at}
use Rattle.hg_machine.specs.Holders.{is_number}
use Rattle.hg_machine.specs.Shown.{IsShownBy}
use Rattle.hg_agreement.specs.Views.{View, Shown, slot_shown}
use Rattle.hg_agreement.specs.Agreement.{standing_of, Agrees}
use Rattle.hg_agreement.specs.Witness.{record_held, is_shown_at, other_record, is_ended, witness}
use Rattle.hg_agreement.specs.Witness.{IsFoundBy, WitnessAgrees}
use Rattle.hg_agreement.proofs.FitWords.{IsFit, fit_word}
use Rattle.hg_agreement.proofs.HeldLives.{twice, held_owner, held_standing, held_live, held_dead}
use Rattle.hg_agreement.proofs.OtherRecords.{told_live, told_owner}
use Rattle.hg_agreement.proofs.WitnessAt.{IsTold, found_at, hand_is, holding_is, held_is}
use Rattle.hg_agreement.proofs.WitnessAt.{elsewhere_is, class_held}
use Rattle.hg_agreement.proofs.WitnessSound.{told_hand, is_used, words_are, witness_sound}

module _ {view : View} {shown : Option Shown} (t : IsTold view shown) where
  ended_when_shown : (q : ℕ) → is_shown_at shown q ≡ true
      → not (is_ended view shown q) ≡ (slot_shown shown).live
  ended_when_shown q at = elim (cases_Bool (is_number q view.hand)) [
    | inl n ↦ rw n (sym ((told_hand t q n at).1))
    | inr f ↦ rw (f, at) (twice (slot_shown shown).live)
  ]

  shown_held : (q word : ℕ) → view.holds (segment_of q) ≡ true → is_shown_at shown q ≡ true
      → slot_shown shown ≡ slot_in word → IsFit (view.standing q) word
      → IsShownBy (record_held view shown q) word
  shown_held q word h at is fit = record {
    generation = fit.generation;
    live = elim (cases_Bool (at_home (view.standing q))) [
      | inr given ↦ ap (λ s. s.live) (sym is) ∙ sym (ended_when_shown q at)
          ∙ sym (held_live (is_ended view shown q) (view.standing q) (view.block q) given)
      | inl free ↦ fit.freed free
          ∙ sym (held_dead (is_ended view shown q) (view.standing q) (view.block q) free)
    ];
    owner = λ used. fit.owner (is_used t q used)
        ∙ sym (held_owner (is_ended view shown q) (view.standing q) (view.block q));
  }

  shown_other : (q word : ℕ) (b : Bool) → is_number q view.hand ≡ b → is_shown_at shown q ≡ true
      → slot_shown shown ≡ slot_in word
      → IsShownBy (other_record b true (slot_in word) view.hand_generation) word
  shown_other q word true n at is = record {
    generation = refl;
    live = ap (λ s. s.live) (sym is) ∙ (told_hand t q n at).1;
    owner = λ used. refl;
  }
  shown_other q word false n at is = record {
    generation = refl;
    live = sym (told_live (slot_in word).live (slot_in word).owner);
    owner = λ used. sym (told_owner (slot_in word).live (slot_in word).owner used);
  }

  word_is : (o : Option Shown) → shown ≡ o
      → IfSome o (λ s. IsShownBy (record_at (witness view shown) s.place) s.word)
  word_is None e = tt
  word_is (Some s) e =
      let q = s.place in
      let at : is_shown_at shown q ≡ true = ap (λ o. is_shown_at o q) e ∙ eq-eqb q q refl in
      let is : slot_shown shown ≡ slot_in s.word = ap slot_shown e in
      let one : IsFoundBy view s = found_at t s e in
      elim (cases_Bool (view.holds (segment_of q))) [
        | inl h ↦ subst (λ r. IsShownBy r s.word) (sym (held_is t q h))
            (shown_held q s.word h at is (fit_word (view.standing q) s.word (one.fits h)))
        | inr f ↦
            let same : record_at (witness view shown) q ≡ other_record (is_number q view.hand) true
            (slot_in s.word) view.hand_generation = elsewhere_is t q f ∙ rw (at, is) in
            subst (λ r. IsShownBy r s.word) (sym same)
            (shown_other q s.word (is_number q view.hand) refl at is)
      ]

  witness_is : Agrees (witness view shown) view shown
  witness_is = record {
    sound = witness_sound t;
    policy = refl;
    holding = holding_is t;
    classes = class_held t;
    standings = λ q h. ap standing_of (held_is t q h)
        ∙ held_standing (is_ended view shown q) (view.standing q) (view.block q);
    blocks = λ q h. ap (λ r. contents_of r.life) (held_is t q h) ∙ words_are t q h;
    hand = hand_is t;
    word = word_is shown refl;
  }

pub witness_agrees : WitnessAgrees
witness_agrees view shown heap hand found usual =
    witness_is (record { heap = heap; hand = hand; found = found; usual = usual })
