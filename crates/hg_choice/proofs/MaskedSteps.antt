-- A step with its choice is one where words are hidden.
use Rattle.std.proofs.Common.{◌≡◌, inl, inr, ℕ, Bool, Option, Some, None, MatchOption, refl, sym}
use Rattle.std.proofs.Common.{ap, subst, ◌∙◌}
use Rattle.hg_machine.specs.declared.Event.{Event}
use Rattle.hg_machine.specs.declared.Event.TheVariants as event
use Rattle.hg_machine.specs.declared.Answer.{Answer}
use Rattle.hg_machine.specs.State.{State}
use Rattle.hg_machine.specs.Request.{size_of}
use Rattle.hg_machine.specs.Refusal.{refusal}
use Rattle.hg_machine.specs.Served.{IsServed}
use Rattle.hg_machine.specs.Steps.{Step, successor}
use Rattle.hg_machine.specs.Lists.{Kept}
use Rattle.hg_machine.proofs.Cases.{Served, Refused, step_cases}
use Rattle.hg_machine.proofs.Serves.{served_step}
use Rattle.hg_laws.proofs.Refusals.{refused_is}
use Rattle.hg_choice.specs.ChosenSteps.{IsChosen, ChosenStep}
use Rattle.hg_choice.specs.Masks.{masked, masked_kept, is_hidden}
use Rattle.hg_choice.proofs.MaskedServes.{masked_event, masked_answer, same_refusal, same_served}
use Rattle.hg_choice.proofs.MaskedChanges.{same_successor}
use Rattle.hg_choice.proofs.MaskedLists.{same_choice, same_lists_after}
use Rattle.hg_choice.proofs.Refusing.{answer_kept, refusal_leaves}

matched : (o : Option Answer) (P : Type 0) (Q : Answer → Type 0) (a : Answer) → o ≡ Some a → Q a
    → MatchOption o P Q
matched None P Q a e q = absurd (cc)
matched (Some b) P Q a e q = let same : a ≡ b = cc in subst Q same q

-- an event that is refused, and leaves the state
pub refused_step : (s : State) (w : ℕ) (e : Event) (a : Answer) (new : State)
    → refusal s w e ≡ Some a → new ≡ s → Step s w e a new
refused_step s w e a new some same =
    matched (refusal s w e) (IsServed s w e a × (new ≡ successor s w e a))
    (λ r. (a ≡ r) × (new ≡ s)) a some (refl, same)

module _ (hides : ℕ → ℕ → Bool) where
  -- the event and the answer there
  abbrev pub event_in : Kept → Event → Event
  event_in k e = masked_event (is_hidden hides k.state) e

  abbrev pub answer_in : Kept → Event → Answer → Answer
  answer_in k e a = masked_answer (is_hidden hides k.state) e a

  same_chosen : (k : Kept) (w : ℕ) (e : Event) (a : Answer) → IsServed k.state w e a
      → IsChosen k w e a → IsChosen (masked_kept hides k) w (event_in k e) (answer_in k e a)
  same_chosen k w (event.Alloc actor arena bytes) a g is =
      subst (IsChosen (masked_kept hides k) w (event.Alloc actor arena bytes)) (sym g.1)
      (same_choice hides k w arena (size_of bytes)
      ∙ subst (IsChosen k w (event.Alloc actor arena bytes)) g.1 is)
  same_chosen k w e a g is = is

  served_masked : (k : Kept) (w : ℕ) (e : Event) (a : Answer) (new : Kept) → ChosenStep k w e a new
      → Served k.state w e a new.state
      → ChosenStep (masked_kept hides k) w (event_in k e) (answer_in k e a) (masked_kept hides new)
  served_masked k w e a new step is = record {
    step = served_step (masked hides k.state) w (event_in k e) (answer_in k e a)
        (masked hides new.state)
        (same_refusal hides k.state w e ∙ is.none)
        (same_served hides k.state w e a is.serves)
        (ap (masked hides) is.after ∙ sym (same_successor hides k.state w e a is.serves));
    chosen = same_chosen k w e a is.serves step.chosen;
    lists = step.lists ∙ sym (same_lists_after hides k w e a is.serves).0;
    queues = step.queues ∙ sym (same_lists_after hides k w e a is.serves).1;
  }

  refused_masked : (k : Kept) (w : ℕ) (e : Event) (a : Answer) (new : Kept) → ChosenStep k w e a new
      → Refused k.state w e a new.state
      → ChosenStep (masked_kept hides k) w (event_in k e) (answer_in k e a) (masked_kept hides new)
  refused_masked k w e a new step is =
      let shut = refused_is k.state w e a is.some in
      let leaves = refusal_leaves k w e a shut in
      let there = refusal_leaves (masked_kept hides k) w (event_in k e) a shut in
      subst (λ b. ChosenStep (masked_kept hides k) w (event_in k e) b (masked_kept hides new))
      (sym (answer_kept (is_hidden hides k.state) e a shut))
      (
      record {
        step = refused_step (masked hides k.state) w (event_in k e) a (masked hides new.state)
            (same_refusal hides k.state w e ∙ is.some) (ap (masked hides) is.same);
        chosen = there.2;
        lists = step.lists ∙ leaves.0 ∙ sym there.0;
        queues = step.queues ∙ leaves.1 ∙ sym there.1;
      }
      )

  pub masked_step : (k : Kept) (w : ℕ) (e : Event) (a : Answer) (new : Kept)
      → ChosenStep k w e a new
      → ChosenStep (masked_kept hides k) w (event_in k e) (answer_in k e a) (masked_kept hides new)
  masked_step k w e a new step =
      elim (step_cases k.state w e a new.state step.step) as
      (λ _. ChosenStep (masked_kept hides k) w (event_in k e) (answer_in k e a)
      (masked_kept hides new)) [
        | inl is ↦ served_masked k w e a new step is
        | inr is ↦ refused_masked k w e a new step is
      ]
