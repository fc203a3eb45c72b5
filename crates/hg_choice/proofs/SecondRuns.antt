-- Where hidden words differ, a step of the one is beside a step of the other.
use Rattle.std.proofs.Common.{◌≡◌, inl, inr, ℕ, ◌+◌, Bool, Some, None, List, []}
use Rattle.std.proofs.Common.{◌∷◌, refl, sym, ap, subst, ◌∙◌}
use Rattle.hg_place.specs.Places.{number_of}
use Rattle.hg_machine.specs.declared.Event.{Event}
use Rattle.hg_machine.specs.declared.Event.TheVariants as event
use Rattle.hg_machine.specs.declared.Answer.{Answer}
use Rattle.hg_machine.specs.declared.Answer.TheVariants as answer
use Rattle.hg_machine.specs.Life.{owner_of, bytes_of}
use Rattle.hg_machine.specs.State.{State, record_at}
use Rattle.hg_machine.specs.Room.{is_room}
use Rattle.hg_machine.specs.Holders.{next_of}
use Rattle.hg_machine.specs.Request.{size_of}
use Rattle.hg_machine.specs.Refusal.{refusal}
use Rattle.hg_machine.specs.Served.{IsServed}
use Rattle.hg_machine.specs.Steps.{successor}
use Rattle.hg_machine.specs.Lists.{Kept}
use Rattle.hg_machine.proofs.Cases.{step_cases}
use Rattle.hg_machine.proofs.Serves.{served_step}
use Rattle.hg_machine.proofs.Answered.{state_is_determined}
use Rattle.hg_laws.proofs.Refusals.{refused_is}
use Rattle.hg_choice.specs.Choice.{chosen_place}
use Rattle.hg_choice.specs.ListsAfter.{lists_after}
use Rattle.hg_choice.specs.QueuesAfter.{queues_after}
use Rattle.hg_choice.specs.ChosenSteps.{IsChosen, ChosenStep, Chosen}
use Rattle.hg_choice.specs.Masks.{masked}
use Rattle.hg_choice.specs.SameBut.{IsSameBut, IsSameEvent, AreSameEvents}
use Rattle.hg_choice.specs.WordLaws.{unreadable, SecondRunsAre}
use Rattle.hg_choice.proofs.MaskedFacts.{same_room, same_generation, same_owner, same_bytes}
use Rattle.hg_choice.proofs.MaskedLists.{same_choice}
use Rattle.hg_choice.proofs.MaskedSteps.{refused_step}
use Rattle.hg_choice.proofs.Refusing.{refusal_leaves}
use Rattle.hg_choice.proofs.WordLemmas.{masks_agree, refusals_agree, step_keeps}

-- the event has a step from this keep
abbrev StepsFrom : Kept → ℕ → Event → Type 0
StepsFrom k w e = (a : Answer) × (new : Kept) × ChosenStep k w e a new

-- what is kept after a served event
abbrev after : Kept → ℕ → Event → Answer → Kept
after k w e a = record {
  state = successor k.state w e a;
  lists = lists_after k w e a;
  queues = queues_after k w e a;
}

serves : (k : Kept) (w : ℕ) (e : Event) (a : Answer) → refusal k.state w e ≡ None
    → IsServed k.state w e a → IsChosen k w e a → StepsFrom k w e
serves k w e a none is chosen = (
  a,
  after k w e a,
  record {
    step = served_step k.state w e a (successor k.state w e a) none is refl;
    chosen = chosen;
    lists = refl;
    queues = refl;
  },
)

module _ (hides : ℕ → ℕ → Bool) where
  module _ (old other : Kept) (same : IsSameBut hides old other) where
    -- what the mask leaves is the same of both
    by_mask : {A : Type 0} (of : State → A) → ((s : State) → of (masked hides s) ≡ of s)
        → of other.state ≡ of old.state
    by_mask of keeps = sym (keeps other.state) ∙ ap of same.state ∙ keeps old.state

    chosen_is : (w arena size : ℕ)
        → chosen_place other w arena size ≡ chosen_place old w arena size
    chosen_is w arena size =
        sym (same_choice hides other w arena size)
        ∙ ap (λ k. chosen_place k w arena size) (masks_agree hides old other same)
        ∙ same_choice hides old w arena size

    -- a served event is served from the other keep
    second_serves : (w : ℕ) (e : Event) (a : Answer) → refusal other.state w e ≡ None
        → IsServed old.state w e a → IsChosen old w e a → StepsFrom other w e
    second_serves w (event.Alloc actor arena bytes) a none g is =
        let p = number_of g.0.place in
        serves other w (event.Alloc actor arena bytes) (answer.Block g.0) none (
          g.0,
          refl,
          record {
            room =
                by_mask (λ s. is_room s w arena (size_of bytes) p)
                (λ s. same_room hides s w arena (size_of bytes) p)
                ∙ g.2.room;
            next =
                g.2.next
                ∙ sym (ap (λ n. n + 1) (by_mask (λ s. (record_at s p).generation)
                (λ s. same_generation hides s p)));
          },
        )
        (chosen_is w arena (size_of bytes)
        ∙ subst (IsChosen old w (event.Alloc actor arena bytes)) g.1 is)
    second_serves w (event.Look actor place) a none g is =
        let p = number_of place in
        serves other w (event.Look actor place) (answer.Listed g.0) none (
          g.0,
          refl,
          record {
            stands = g.2.stands;
            generation =
                g.2.generation
                ∙ sym (by_mask (λ s. (record_at s p).generation)
                (λ s. same_generation hides s p));
            owner =
                g.2.owner
                ∙ sym (by_mask (λ s. owner_of (record_at s p).life)
                (λ s. same_owner hides s p));
            bytes =
                g.2.bytes
                ∙ sym (by_mask (λ s. bytes_of (record_at s p).life)
                (λ s. same_bytes hides s p));
          },
        )
        tt
    second_serves w (event.Refill arena) a none g is =
        serves other w (event.Refill arena) (answer.Refilled g.0) none
        (g.0, refl, by_mask (λ s. next_of s arena) (λ s. refl) ∙ g.2) tt
    second_serves w e a none g is = serves other w e _ none refl tt

    refuses : (w : ℕ) (e : Event) (a : Answer) → refusal other.state w e ≡ Some a
        → StepsFrom other w e
    refuses w e a some =
        let leaves = refusal_leaves other w e a (refused_is other.state w e a some) in (
          a,
          other,
          record {
            step = refused_step other.state w e a other.state some refl;
            chosen = leaves.2;
            lists = sym leaves.0;
            queues = sym leaves.1;
          },
        )

    second_step : (w : ℕ) (e f : Event) (a : Answer) (new : Kept)
        → IsSameEvent hides old.state e f → ChosenStep old w e a new → StepsFrom other w f
    second_step w e f a new alike one =
        let refusals = refusals_agree hides old.state other.state w e f same.state alike in
        elim (step_cases old.state w e a new.state one.step) as (λ _. StepsFrom other w f) [
          | inr refused ↦ refuses w f a (refusals ∙ refused.some)
          | inl served ↦ elim alike as (λ _. StepsFrom other w f) [
            | inr x ↦
                subst (StepsFrom other w) (sym x.rewritten)
                (serves other w (event.Write x.writer x.handle x.index x.instead) answer.Done
                (sym (ap (refusal other.state w) x.rewritten) ∙ refusals ∙ served.none)
                refl tt)
            | inl is ↦
                subst (StepsFrom other w) (sym is)
                (second_serves w e a
                (sym (ap (refusal other.state w) is) ∙ refusals ∙ served.none) served.serves
                one.chosen)
          ]
        ]

  second_runs : (old other : Kept) (events others : List (ℕ × Event)) (answers : List Answer)
      (new : Kept) → IsSameBut hides old other
      → AreSameEvents hides old.state events others answers → Chosen old events answers new
      → (given : List Answer) × (last : Kept) × Chosen other others given last
  second_runs old other [] [] [] new same alike one = ([], other, refl)
  second_runs old other [] [] (a ∷ answers) new same alike one = absurd one
  second_runs old other [] (f ∷ others) answers new same alike one = absurd alike
  second_runs old other (e ∷ events) [] answers new same alike one = absurd alike
  second_runs old other (e ∷ events) (f ∷ others) [] new same alike one = absurd one
  second_runs old other (e ∷ events) (f ∷ others) (a ∷ answers) new same alike one =
      let step = second_step old other same e.0 e.1 f.1 a one.0 alike.1 one.1 in
      let after_one = state_is_determined old.state e.0 e.1 a one.0.state one.1.step in
      let kept = step_keeps hides old other e.0 e.1 f.1 a step.0 one.0 step.1 same alike.1 one.1
      step.2 in
      let later = second_runs one.0 step.1 events others answers new kept
      (subst (λ s. AreSameEvents hides s events others answers) (sym after_one) alike.2) one.2 in (
        step.0 ∷ later.0,
        later.1,
        (step.1, subst (λ w. ChosenStep other w f.1 step.0 step.1) (sym alike.0) step.2, later.2),
      )

pub second_runs_are : SecondRunsAre
second_runs_are actor old other events others answers new begin same one =
    second_runs (unreadable old actor) old other events others answers new begin same one
