-- Blocks of a segment that the worker doesn't hold.
use Rattle.std.proofs.Common.{◌≡◌, ℕ, ◌<◌, true, false, refl, sym, subst, ◌∙◌}
use Rattle.hg_place.specs.declared.Actor.{Actor}
use Rattle.hg_place.specs.declared.Handle.{Handle}
use Rattle.hg_place.specs.declared.Place.{Place}
use Rattle.hg_heap.specs.declared.refused.Refused.{Refused}
use Rattle.hg_heap.specs.Answers.{refused_answer, away_answer, list_denial}
use Rattle.hg_heap.specs.Reading.{use_denial}
use Rattle.hg_machine.specs.declared.Answer.{Answer}
use Rattle.hg_machine.specs.declared.Event.{Event}
use Rattle.hg_machine.specs.Holders.{holds}
use Rattle.hg_machine.specs.Steps.{Step}
use Rattle.hg_laws.specs.Asked.{is_refusal}
use Rattle.hg_events.specs.Core.{Core}
use Rattle.hg_events.specs.Elsewhere.{IsAway, word_at}
use Rattle.hg_events.proofs.Elsewhere.{holds_is_held, read_elsewhere, write_elsewhere}
use Rattle.hg_events.proofs.Elsewhere.{look_elsewhere}
use Rattle.hg_chosen.specs.Chosen.{IsChosenBy}
use Rattle.hg_chosen.proofs.Refusals.{refused_is_chosen}
use Rattle.hg_core.specs.Keeping.{state_in, IsKept}
use Rattle.hg_core.proofs.After.{heap_below}
use Rattle.hg_place.specs.declared.Right.TheVariants as right
use Rattle.hg_heap.specs.declared.refused.Refused.TheVariants as refused
use Rattle.hg_machine.specs.declared.Event.TheVariants as event

-- each refusal of a heap is answered by one
pub answers_refusal : (why : Refused) → is_refusal (refused_answer why) ≡ true
answers_refusal (refused.Denied rule) = refl
answers_refusal _ = refl

-- so a step that it refuses is one with its choices
pub refused_by_heap : (s : Core) (worker : ℕ) (e : Event) (why : Refused)
    → Step (state_in s) worker e (refused_answer why) (state_in s)
    → IsChosenBy s worker e (refused_answer why) s
refused_by_heap s worker e why step =
    refused_is_chosen s worker e (refused_answer why) (answers_refusal why) step

module _ (s : Core) (worker : ℕ) (kept : IsKept s) (below : worker < s.policy.workers) where
  pub is_away : (segment : ℕ) → holds (state_in s) worker segment ≡ false
      → IsAway s worker segment
  is_away segment none = record {
    below = heap_below s worker kept.tidy below;
    unheld = sym (holds_is_held s worker segment kept.tidy (heap_below s worker kept.tidy below))
        ∙ none;
  }

  pub read_away : (actor : Actor) (handle : Handle) (index : ℕ) (x : Answer)
      → holds (state_in s) worker handle.place.segment ≡ false
      → x ≡ away_answer (use_denial s.policy actor.0 right.Read handle (word_at s handle.place))
      → Step (state_in s) worker (event.Read actor handle index) x (state_in s)
  read_away actor handle index x none is =
      subst (λ y. Step (state_in s) worker (event.Read actor handle index) y (state_in s)) (sym is)
      (read_elsewhere s worker actor handle index kept.policy kept.tidy
      (is_away handle.place.segment none))

  pub write_away : (actor : Actor) (handle : Handle) (index value : ℕ) (x : Answer)
      → holds (state_in s) worker handle.place.segment ≡ false
      → x ≡ away_answer (use_denial s.policy actor.0 right.Write handle (word_at s handle.place))
      → Step (state_in s) worker (event.Write actor handle index value) x (state_in s)
  write_away actor handle index value x none is =
      subst (λ y. Step (state_in s) worker (event.Write actor handle index value) y (state_in s))
      (sym is)
      (write_elsewhere s worker actor handle index value kept.policy kept.tidy
      (is_away handle.place.segment none))

  pub look_away : (actor : Actor) (place : Place) (x : Answer)
      → holds (state_in s) worker place.segment ≡ false
      → x ≡ away_answer (list_denial s.policy actor place (word_at s place))
      → Step (state_in s) worker (event.Look actor place) x (state_in s)
  look_away actor place x none is =
      subst (λ y. Step (state_in s) worker (event.Look actor place) y (state_in s)) (sym is)
      (look_elsewhere s worker actor place kept.policy kept.tidy (is_away place.segment none))
