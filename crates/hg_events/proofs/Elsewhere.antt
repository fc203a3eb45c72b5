-- Events on blocks of segments that the worker doesn't hold, refused.
use Rattle.std.proofs.Common.{◌≡◌, ℕ, ◌&&◌, ◌%◌, Bool, true, false, not, nat_lt, is_some, List, []}
use Rattle.std.proofs.Common.{◌∷◌, length, map, max, refl, sym, ap, ◌∙◌, arith}
use Rattle.std.specs.Prelude.{Option, Some, None}
use Rattle.std.proofs.lemmas.Bool.{eqb-true}
use Rattle.std.proofs.lemmas.List.{length-map}
use Rattle.std.proofs.lemmas.Option.{slice_get_within}
use Rattle.hg_place.specs.declared.Handle.{Handle}
use Rattle.hg_place.specs.declared.Place.{Place}
use Rattle.hg_place.specs.declared.Right.{Right}
use Rattle.hg_place.specs.Places.{number_of}
use Rattle.hg_place.specs.Slots.{slot_in}
use Rattle.hg_machine.specs.declared.Answer.{Answer}
use Rattle.hg_machine.specs.declared.Event.{Event}
use Rattle.hg_machine.specs.declared.Rule.{Rule}
use Rattle.hg_machine.specs.Denial.{denial, denial_on}
use Rattle.hg_machine.specs.Holders.{holds}
use Rattle.hg_machine.specs.Life.{contents_of}
use Rattle.hg_machine.specs.Policy.{arena_of}
use Rattle.hg_machine.specs.Refusal.{denial_or, refusal}
use Rattle.hg_machine.specs.SoundPolicy.{IsSoundPolicy}
use Rattle.hg_machine.specs.State.{State, record_at, hand_of}
use Rattle.hg_machine.specs.Steps.{Step}
use Rattle.hg_machine.proofs.Allowed.{parts as allowed_parts}
use Rattle.hg_machine.proofs.Answered.{of_some}
use Rattle.hg_agreement.specs.Parts.{plain_from, state_of}
use Rattle.hg_agreement.proofs.Bridge.{holds_had}
use Rattle.hg_agreement.proofs.Closes.{native, read_as}
use Rattle.hg_parts.specs.Tidy.{IsTidy}
use Rattle.hg_parts.proofs.Sorted.{tidy_sorted}
use Rattle.hg_events.specs.Core.{Core, parts_of}
use Rattle.hg_heap.specs.Answers.{away_answer}
use Rattle.hg_events.specs.Elsewhere.{word_at, IsAway, ReadElsewhere, WriteElsewhere, LookElsewhere}
use Rattle.hg_events.specs.Elsewhere.{FreeIsDeniedElsewhere, FreeIsBusy, HoldsIsHeld}
use Rattle.hg_events.specs.Elsewhere.{UndeniedWordIsLive}
use Rattle.hg_events.proofs.WordAt.{word_shown, word_denies, word_is_slot, had_held}
use Rattle.hg_heap.proofs.Options.{some_of}
use Rattle.hg_place.specs.declared.Right.TheVariants as right
use Rattle.hg_machine.specs.declared.Answer.TheVariants as answer
use Rattle.hg_machine.specs.declared.Event.TheVariants as event

-- what is refused changes nothing
refused_step : (s : State) (worker : ℕ) (event : Event) (refused : Answer)
    → refusal s worker event ≡ Some refused → Step s worker event refused s
refused_step s worker event refused is =
    of_some (refusal s worker event) _ (λ other. (refused ≡ other) × (s ≡ s)) refused is
    (refl, refl)

pub holds_is_held : HoldsIsHeld
holds_is_held core worker segment t below =
    holds_had (parts_of core) worker (tidy_sorted (parts_of core) t)
    (omega (arith, below, length-map core.heaps (λ held. map plain_from held.segments))) segment
    ∙ had_held core worker segment

-- the worker doesn't hold the segment in the state
pub away_holds : (core : Core) (worker segment : ℕ) → IsTidy (parts_of core)
    → IsAway core worker segment → holds (state_of (parts_of core)) worker segment ≡ false
away_holds core worker segment t away =
    holds_is_held core worker segment t away.below ∙ away.unheld

-- the denial, or else the next reason
away_refused : (rule : Option Rule) (rest : List (Bool × Answer))
    → denial_or rule ((true, answer.Elsewhere) ∷ rest) ≡ Some (away_answer rule)
away_refused None rest = refl
away_refused (Some rule) rest = refl

module _ (core : Core) (worker : ℕ) (place : Place) (policy : IsSoundPolicy core.policy)
    (t : IsTidy (parts_of core)) (away : IsAway core worker place.segment) where
  abbrev s : State
  s = state_of (parts_of core)

  refused : (actor : ℕ) (right : Right) (expected : ℕ) (rest : List (Bool × Answer))
      → denial_or (denial s actor right place expected)
      ((not (holds s worker place.segment), answer.Elsewhere) ∷ rest)
      ≡ Some (away_answer
      (denial_on core.policy actor right place.segment expected (slot_in (word_at core place))))
  refused actor right expected rest =
      ap (λ b. denial_or (denial s actor right place expected)
      ((not b, answer.Elsewhere) ∷ rest)) (away_holds core worker place.segment t away)
      ∙ away_refused (denial s actor right place expected) rest
      ∙ ap (λ o. Some (away_answer o)) (sym (word_denies core place policy t actor right expected))

-- the reason that is left to a Read and a Write
abbrev out_of_block : State → Handle → ℕ → List (Bool × Answer)
out_of_block s handle index = (
  not (nat_lt index (length (contents_of (record_at s (number_of handle.place)).life))),
  answer.OutOfBlock,
) ∷ []

pub read_elsewhere : ReadElsewhere
read_elsewhere core worker actor handle index policy t away =
    refused_step (state_of (parts_of core)) worker (event.Read actor handle index) _
    (refused core worker handle.place policy t away actor.0 right.Read handle.generation
    (out_of_block (state_of (parts_of core)) handle index))

pub write_elsewhere : WriteElsewhere
write_elsewhere core worker actor handle index value policy t away =
    refused_step (state_of (parts_of core)) worker (event.Write actor handle index value) _
    (refused core worker handle.place policy t away actor.0 right.Write handle.generation
    (out_of_block (state_of (parts_of core)) handle index))

pub look_elsewhere : LookElsewhere
look_elsewhere core worker actor place policy t away =
    let s = state_of (parts_of core) in
    refused_step s worker (event.Look actor place) _
    (refused core worker place policy t away actor.0 right.List
    (max 1 (record_at s (number_of place)).generation) []
    ∙ ap (λ g. Some (away_answer (denial_on core.policy actor.0 right.List place.segment (max 1 g)
    (slot_in (word_at core place)))))
    (sym (word_shown core place policy t).generation))

-- the reason that is left to a Free
abbrev pub busy : Bool → Option ℕ → List (Bool × Answer)
busy held hand = (not held && is_some hand, answer.Busy) ∷ []

pub free_is_denied_elsewhere : FreeIsDeniedElsewhere
free_is_denied_elsewhere core worker actor handle rule policy t denied =
    let s = state_of (parts_of core) in
    refused_step s worker (event.Free actor handle) (answer.Denied rule)
    (ap (λ o. denial_or o (busy (holds s worker handle.place.segment) (hand_of s worker)))
    (sym (word_denies core handle.place policy t actor.0 right.Free handle.generation) ∙ denied))

pub free_is_busy : FreeIsBusy
free_is_busy core worker actor handle hand policy t away undenied full =
    let s = state_of (parts_of core) in
    refused_step s worker (event.Free actor handle) answer.Busy
    (ap (λ o. denial_or o (busy (holds s worker handle.place.segment) (hand_of s worker)))
    (sym (word_denies core handle.place policy t actor.0 right.Free handle.generation) ∙ undenied)
    ∙ ap (λ b. denial_or None (busy b (hand_of s worker)))
    (away_holds core worker handle.place.segment t away)
    ∙ ap (λ o. denial_or None (busy false o)) full)

-- a word that shows a live block ends in the bit of a live one
live_bit : (word : ℕ) → (slot_in word).live ≡ true → word % 2 ≡ 1
live_bit word live =
    eqb-true (word % 2) 1 (ap (λ s. s.live) (sym (ap (read_as word) (native word live))) ∙ live)

pub undenied_word_is_live : UndeniedWordIsLive
undenied_word_is_live core actor right handle t undenied =
    let word = word_at core handle.place in
    let allowed = allowed_parts core.policy actor right handle.place.segment handle.generation
    (slot_in word) undenied in
    let arena = some_of (arena_of core.policy handle.place.segment) allowed.0 in (
      (word_is_slot core handle.place t, live_bit word allowed.2),
      slice_get_within core.policy.segments handle.place.segment arena.0 arena.1,
    )
