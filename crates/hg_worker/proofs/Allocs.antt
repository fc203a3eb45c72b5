-- Allocations, and pages that lose their class.
use Rattle.std.proofs.Common.{◌≡◌, ℕ, ◌-◌, ◌<◌, ◌≤◌, List, []}
use Rattle.std.proofs.Common.{◌++◌, map, Some, None, refl, sym, ap, subst, ◌∙◌, arith}
use Rattle.std.specs.Prelude.{Option, option_map, MatchOption, IfSome}
use Rattle.std.proofs.lemmas.List.{append-nil}
use Rattle.hg_place.specs.declared.Handle.{Handle}
use Rattle.hg_place.specs.declared.standing.Standing.TheVariants.{Home, Open}
use Rattle.hg_place.specs.Lives.{IsAtOrBefore, live_word, word_generation, word_life}
use Rattle.hg_place.specs.Standings.{slot_of, Fits, IsSane}
use Rattle.hg_machine.specs.Policy.{Policy, arena_of}
use Rattle.hg_segment.specs.Kept.{Kept}
use Rattle.hg_heap.specs.declared.refused.Refused.{Refused}
use Rattle.hg_heap.specs.declared.refused.Refused.TheVariants as refused
use Rattle.hg_heap.specs.Allotted.{IsAllotted}
use Rattle.hg_heap.specs.Answers.{refused_answer}
use Rattle.hg_heap.specs.Held.{segment_in}
use Rattle.hg_heap.specs.Idle.{bare}
use Rattle.hg_heap.specs.Policies.{AreOf}
use Rattle.hg_heap.proofs.Founds.{Contains-get}
use Rattle.hg_heap.proofs.Looking.{slot_below}
use Rattle.hg_heap.proofs.Founds.{told_in}
use Rattle.std.proofs.lemmas.Simd.{map-map}
use Rattle.hg_table.specs.declared.segment.UnnamedSegment.{UnnamedSegment}
use Rattle.hg_table.specs.Fitting.{fitting}
use Rattle.hg_table.specs.Seats.{ended_after}
use Rattle.hg_table.proofs.Told.{not_ended}
use Rattle.hg_worker.specs.Answers.{block_in}
use Rattle.hg_worker.specs.Seats.{number_in, records_in, part_of_seat}
use Rattle.hg_worker.specs.Seats.{seat_shows, seat_steps}

-- a refusal of the heap gives no block
pub no_block : (why : Refused) → block_in (refused_answer why) ≡ None
no_block (refused.Denied rule) = refl
no_block refused.TooLarge = refl
no_block refused.NoRoom = refl
no_block refused.Elsewhere = refl
no_block refused.OutOfBlock = refl

pub by_none : {X : Type 0} (o : Option X) (P : Type 0) (Q : X → Type 0) → o ≡ None → P
    → MatchOption o P Q
by_none None P Q e p = p
by_none (Some x) P Q e p = absurd (cc)

pub if_no_block : {X : Type 0} (o : Option X) (P : X → Type 0) → o ≡ None → IfSome o P
if_no_block None P e = tt
if_no_block (Some x) P e = absurd (cc)

-- a place that is given out goes from a freed word to the live one of the next generation
pub live_follows : (word generation owner : ℕ) → 1 ≤ generation → owner < 64
    → word_generation word ≡ generation - 1 → IsAtOrBefore word (live_word generation owner)
live_follows word generation owner given few is =
    let now : word_generation (live_word generation owner) ≡ generation = omega arith in
    (omega (arith, is, now), λ same. absurd (omega (arith, is, now, same, given)))

pub live_ends_none : (at word generation owner : ℕ) (ended : List (ℕ × ℕ))
    → ended_after at word (live_word generation owner) ended ≡ ended ++ []
live_ends_none at word generation owner ended =
    let lives : word_life (live_word generation owner) ≡ 1 = omega arith in
    not_ended at word (live_word generation owner) ended (λ _. lives) ∙ sym (append-nil ended)

module _ (policy : Policy) (size owner : ℕ) (handle : Handle)
    (old new : List (Kept UnnamedSegment))
    (given : IsAllotted number_in records_in seat_shows
    seat_steps size owner handle old new) where
  -- the word that stood at the place was the one before
  pub given_follows : IsAtOrBefore given.word (live_word handle.generation owner)
  given_follows =
      let st = given.stepped in
      let seat = st.before.slots in
      let fits = (fitting seat.segment (slot_of handle.place) given.word (part_of_seat seat)
      (records_in seat) seat.first seat.recorded seat.sized
      (slot_below handle.place) st.shown).1 in
      let home : Fits (Home (handle.generation - 1)) given.word =
      subst (λ r. Fits r given.word) given.home fits in
      let sane : IsSane (Open handle.generation owner) =
      subst IsSane given.given.standing
      (st.after.slots.sane (slot_of handle.place) (slot_below handle.place)) in
      live_follows given.word handle.generation owner (sane.given_out refl) (sane.owner refl)
      home.generation

  -- of a segment of the policy
  pub given_arena : AreOf number_in policy old
      → (arena : ℕ) × (arena_of policy handle.place.segment ≡ Some arena)
  given_arena of =
      let st = given.stepped in (
        st.before.arena,
        ap (arena_of policy) (sym st.segment)
            ∙ of.arena st.before (Contains-get old st.found st.before st.at),
      )

-- segments that differ in classes and lists alone have the same slot words
pub slots_in : {S X : Type 0} (number : S → ℕ) (part : S → X) (xs ys : List (Kept S))
    → map bare ys ≡ map bare xs → (segment : ℕ)
    → option_map (λ (j : Kept S). part j.slots) (segment_in number ys segment)
    ≡ option_map (λ (j : Kept S). part j.slots) (segment_in number xs segment)
slots_in {S} {X} number part xs ys e =
    let told : Kept S → ℕ × X = λ k. (number k.slots, part k.slots) in
    told_in number (λ k. part k.slots) xs ys
    (sym (map-map told bare ys) ∙ ap (map told) e ∙ map-map told bare xs)
