-- Runs with their choices are runs of the machine, and determined.
use Rattle.std.proofs.Common.{◌≡◌, inl, inr, ℕ, ◌+◌, [], ◌∷◌, Some, refl, sym, ap, subst, ◌∙◌}
use Rattle.std.proofs.lemmas.Option.{same_Some, none-some}
use Rattle.hg_place.specs.declared.Handle.{Handle}
use Rattle.hg_place.specs.Places.{number_of}
use Rattle.hg_place.proofs.PlaceNumbers.{same_handle}
use Rattle.hg_machine.specs.declared.Event.{Event}
use Rattle.hg_machine.specs.declared.Event.TheVariants as event
use Rattle.hg_machine.specs.declared.Answer.{Answer}
use Rattle.hg_machine.specs.declared.Answer.TheVariants as answer
use Rattle.hg_machine.specs.declared.Row.{Row}
use Rattle.hg_machine.specs.State.{record_at}
use Rattle.hg_machine.specs.Request.{size_of}
use Rattle.hg_machine.specs.Served.{IsServed}
use Rattle.hg_machine.specs.Steps.{successor}
use Rattle.hg_machine.specs.Lists.{Kept}
use Rattle.hg_machine.proofs.Cases.{step_cases, refused_changes_nothing}
use Rattle.hg_machine.proofs.Answered.{answer_is_determined, state_is_determined}
use Rattle.hg_choice.specs.Choice.{chosen_place}
use Rattle.hg_choice.specs.ListsAfter.{lists_after}
use Rattle.hg_choice.specs.QueuesAfter.{queues_after}
use Rattle.hg_choice.specs.ChosenSteps.{IsChosen, ChosenStep, Chosen}
use Rattle.hg_choice.specs.ChoiceLaws.{ChosenRunsAreRuns, ChoicesAreDetermined}

pub chosen_runs_are_runs : ChosenRunsAreRuns
chosen_runs_are_runs old new [] [] run = ap (λ k. k.state) run
chosen_runs_are_runs old new [] (a ∷ answers) run = absurd run
chosen_runs_are_runs old new (e ∷ events) [] run = absurd run
chosen_runs_are_runs old new (e ∷ events) (a ∷ answers) run =
    (run.0.state, run.1.step, chosen_runs_are_runs run.0 new events answers run.2)

-- two blocks at the place of the order of choice, one generation up
same_block : (old : Kept) (w arena size : ℕ) (h k : Handle)
    → chosen_place old w arena size ≡ Some (number_of h.place)
    → chosen_place old w arena size ≡ Some (number_of k.place)
    → h.generation ≡ (record_at old.state (number_of h.place)).generation + 1
    → k.generation ≡ (record_at old.state (number_of k.place)).generation + 1 → h ≡ k
same_block old w arena size h k one second g f =
    let at = same_Some _ _ (sym one ∙ second) in
    same_handle h k at (g ∙ ap (λ p. (record_at old.state p).generation + 1) at ∙ sym f)

blocks_agree : (old : Kept) (w : ℕ) (e : Event) (a b : Answer) → IsServed old.state w e a
    → IsServed old.state w e b → IsChosen old w e a → IsChosen old w e b
    → (h k : Handle) → a ≡ answer.Block h → b ≡ answer.Block k → a ≡ b
blocks_agree old w (event.Alloc actor arena bytes) a b g f one second h k is are =
    let first = subst (IsChosen old w (event.Alloc actor arena bytes)) g.1 one in
    let other = subst (IsChosen old w (event.Alloc actor arena bytes)) f.1 second in
    g.1 ∙ ap answer.Block (same_block old w arena (size_of bytes) g.0 f.0 first other g.2.next
    f.2.next) ∙ sym f.1
blocks_agree old w (event.Free actor handle) a b g f one second h k is are = g ∙ sym f
blocks_agree old w event.Deliver a b g f one second h k is are = g ∙ sym f
blocks_agree old w (event.Take segment) a b g f one second h k is are = g ∙ sym f
blocks_agree old w event.Collect a b g f one second h k is are = g ∙ sym f
blocks_agree old w (event.Read actor handle index) a b g f one second h k is are = g ∙ sym f
blocks_agree old w (event.Write actor handle index value) a b g f one second h k is are = g ∙ sym f
blocks_agree old w (event.Look actor place) a b g f one second h k is are =
    absurd (row_block g.0 h (sym g.1 ∙ is))
  where
    row_block : (row : Row) (h : Handle) → answer.Listed row ≡ answer.Block h → ⊥
    row_block row h e = cc
blocks_agree old w (event.Abandon segment) a b g f one second h k is are = g ∙ sym f
blocks_agree old w (event.Refill arena) a b g f one second h k is are =
    absurd (refill_block g.0 h (sym g.1 ∙ is))
  where
    refill_block : (segment : ℕ) (h : Handle) → answer.Refilled segment ≡ answer.Block h → ⊥
    refill_block segment h e = cc

-- one event has one answer
pub answers_agree : (old : Kept) (w : ℕ) (e : Event) (a b : Answer) (new last : Kept)
    → ChosenStep old w e a new → ChosenStep old w e b last → b ≡ a
answers_agree old w e a b new last one second =
    elim (answer_is_determined old.state w e a b new.state last.state one.step second.step) as
    (λ _. b ≡ a) [
      | inl same ↦ sym same
      | inr blocks ↦ elim (step_cases old.state w e a new.state one.step) as (λ _. b ≡ a) [
        | inr refused ↦
            (refused_changes_nothing old.state last.state w e b a refused.some second.step).0
        | inl served ↦ elim (step_cases old.state w e b last.state second.step) as (λ _. b ≡ a) [
          | inr refused ↦ absurd (none-some b (sym served.none ∙ refused.some))
          | inl also ↦
              sym (blocks_agree old w e a b served.serves also.serves one.chosen second.chosen
              blocks.0 blocks.1 blocks.2 blocks.3)
        ]
      ]
    ]

pub same_kept : (k m : Kept) → m.state ≡ k.state → m.lists ≡ k.lists → m.queues ≡ k.queues → m ≡ k
same_kept k m a b c =
    ap (λ x. record { state = x; lists = m.lists; queues = m.queues }) a
    ∙ ap (λ x. record { state = k.state; lists = x; queues = m.queues }) b
    ∙ ap (λ x. record { state = k.state; lists = k.lists; queues = x }) c

-- and leaves one
pub steps_agree : (old : Kept) (w : ℕ) (e : Event) (a b : Answer) (new last : Kept)
    → ChosenStep old w e a new → ChosenStep old w e b last → (b ≡ a) × (last ≡ new)
steps_agree old w e a b new last one second =
    let same = answers_agree old w e a b new last one second in (
      same,
      same_kept new last
          (state_is_determined old.state w e b last.state second.step
          ∙ ap (successor old.state w e) same
          ∙ sym (state_is_determined old.state w e a new.state one.step))
          (second.lists ∙ ap (lists_after old w e) same ∙ sym one.lists)
          (second.queues ∙ ap (queues_after old w e) same ∙ sym one.queues),
    )

pub choices_are_determined : ChoicesAreDetermined
choices_are_determined old new last [] [] [] one second = (refl, second ∙ sym one)
choices_are_determined old new last [] [] (b ∷ given) one second = absurd second
choices_are_determined old new last [] (a ∷ answers) given one second = absurd one
choices_are_determined old new last (e ∷ events) [] given one second = absurd one
choices_are_determined old new last (e ∷ events) (a ∷ answers) [] one second = absurd second
choices_are_determined old new last (e ∷ events) (a ∷ answers) (b ∷ given) one second =
    let here = steps_agree old e.0 e.1 a b one.0 second.0 one.1 second.1 in
    let later = choices_are_determined one.0 new last events answers given one.2
    (subst (λ k. Chosen k events given last) here.1 second.2) in
    (ap (λ x. x ∷ given) here.0 ∙ ap (λ xs. a ∷ xs) later.0, later.1)
