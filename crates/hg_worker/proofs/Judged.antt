-- By which rule a call is denied, by the word that it found.
use Rattle.std.proofs.Common.{◌≡◌, ℕ, false, Some, None, refl, ap}
use Rattle.std.proofs.Common.{◌∙◌, arith}
use Rattle.std.specs.Prelude.{Option, Result, Ok, Err}
use Rattle.hg_place.specs.declared.Handle.{Handle}
use Rattle.hg_place.specs.declared.Place.{Place}
use Rattle.hg_place.specs.declared.Right.{Right}
use Rattle.hg_place.specs.Lives.{IsSlotWord}
use Rattle.hg_place.specs.Slots.{slot_in}
use Rattle.hg_machine.specs.Denial.{denial_on}
use Rattle.hg_machine.specs.Policy.{Policy}
use Rattle.hg_machine.specs.declared.Rule.{Rule}
use Rattle.hg_agreement.specs.Views.{Shown, slot_shown}
use Rattle.hg_heap.specs.declared.refused.Refused.{Refused}
use Rattle.hg_heap.specs.declared.refused.Refused.TheVariants as refused
use Rattle.hg_heap.specs.Answers.{refused_answer, read_answer, done_answer, away_answer}
use Rattle.hg_heap.specs.Judged.{IsJudged, refused_rule, rule_in}
use Rattle.hg_heap.specs.Reading.{use_denial}
use Rattle.hg_heap.proofs.Undenied.{undenied_live}
use Rattle.hg_table.specs.declared.view.Part.{Part}
use Rattle.hg_worker.specs.Answers.{is_done}
use Rattle.hg_worker.specs.Had.{Had}
use Rattle.hg_worker.specs.Judged.{found_word, rule_of}
use Rattle.hg_worker.specs.Seen.{Looked}

-- a word says what was shown
pub found_slot : (shown : Option Shown) → slot_in (found_word shown) ≡ slot_shown shown
found_slot None = refl
found_slot (Some shown) = refl

-- an answer names the rule of a refusal
pub rule_away : (denial : Option Rule) → rule_of (away_answer denial) ≡ denial
rule_away None = refl
rule_away (Some rule) = refl

pub rule_refused : (why : Refused) → rule_of (refused_answer why) ≡ refused_rule why
rule_refused (refused.Denied rule) = refl
rule_refused refused.TooLarge = refl
rule_refused refused.NoRoom = refl
rule_refused refused.Elsewhere = refl
rule_refused refused.OutOfBlock = refl

pub rule_read : (told : Result ℕ Refused) → rule_of (read_answer told) ≡ rule_in told
rule_read (Ok value) = refl
rule_read (Err why) = rule_refused why

pub rule_done : {X : Type 0} (told : Result X Refused) → rule_of (done_answer told) ≡ rule_in told
rule_done (Ok done) = refl
rule_done (Err why) = rule_refused why

-- a refusal isn't Done
pub not_away : (denial : Option Rule) → is_done (away_answer denial) ≡ false
not_away None = refl
not_away (Some rule) = refl

pub not_refused : (why : Refused) → is_done (refused_answer why) ≡ false
not_refused (refused.Denied rule) = refl
not_refused refused.TooLarge = refl
not_refused refused.NoRoom = refl
not_refused refused.Elsewhere = refl
not_refused refused.OutOfBlock = refl

module _ {S : Type 0} (number : S → ℕ) (part : S → Part) where
  -- what was found is a slot's word
  found_is_slot : (place : Place) (shown : Option Shown) (old new : Had S)
      → Looked number part place shown old new → IsSlotWord (found_word shown)
  found_is_slot place None old new looked = (omega arith, omega arith, λ _. refl)
  found_is_slot place (Some shown) old new looked = looked.2.shown.slot_word

  -- the verdict on the word that was found
  pub judged_by : (policy : Policy) (actor : ℕ) (which : Right) (handle : Handle)
      (shown : Option Shown) (old new : Had S) (denial : Option Rule)
      → Looked number part handle.place shown old new
      → denial_on policy actor which handle.place.segment handle.generation (slot_shown shown)
      ≡ denial
      → IsJudged policy actor which handle (found_word shown) denial
  judged_by policy actor which handle shown old new denial looked is =
      let named : use_denial policy actor which handle (found_word shown) ≡ denial =
      ap (denial_on policy actor which handle.place.segment handle.generation) (found_slot shown)
      ∙ is in
      let slot = found_is_slot handle.place shown old new looked in
      record {
        named = named;
        live = λ none.
            (undenied_live policy actor which handle (found_word shown) slot (named ∙ none)).0;
        generation = λ none.
            (undenied_live policy actor which handle (found_word shown) slot (named ∙ none)).1;
      }
