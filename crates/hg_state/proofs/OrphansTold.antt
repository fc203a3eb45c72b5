-- Which segments are orphans, and which are fresh.
use Rattle.std.proofs.Common.{◌≡◌, ℕ, ◌+◌, ◌==◌, ◌&&◌, Bool, true, false, not, cond, List, [], ◌∷◌, count_by, refl, sym, ap, subst, ◌∙◌, arith, inl, inr}
use Rattle.std.proofs.lemmas.Bool.{cases_Bool}
use Rattle.std.proofs.lemmas.List.Sums.{sum_by-cons}
use Rattle.std.specs.Prelude.{is_none}
use Rattle.std.specs.List.{list_any}
use Rattle.hg_place.specs.Words.{bit_of}
use Rattle.hg_machine.specs.declared.Answer.{Answer}
use Rattle.hg_machine.specs.declared.Answer.TheVariants as answer
use Rattle.hg_machine.specs.declared.Event.{Event}
use Rattle.hg_machine.specs.declared.Event.TheVariants as event
use Rattle.hg_machine.specs.Holders.{is_fresh, is_orphan}
use Rattle.hg_machine.specs.State.{State, Holder, fresh, orphan, held, holder_at}
use Rattle.hg_machine.specs.Lists.{Kept}
use Rattle.hg_machine.specs.Steps.{successor}
use Rattle.hg_machine.proofs.Answered.{state_is_determined}
use Rattle.hg_choice.specs.ChosenSteps.{Chosen}
use Rattle.hg_trace.specs.declared.line.Line.{Line}
use Rattle.hg_core.specs.Held.{worker_in}
use Rattle.hg_replay.specs.declared.replaying.told.Told.{Told}
use Rattle.hg_replay.specs.declared.replaying.told.Told.TheVariants as told
use Rattle.hg_replay.specs.Events.{events_of}
use Rattle.hg_replay.specs.Replays.{Progress, Answered}
use Rattle.hg_replay.specs.Tellings.{IsTold}
use Rattle.hg_replay.proofs.Looking.{looks_leave}
use Rattle.hg_state.specs.Orphans.{orphans_of, orphans_after, FreshAreApart, StepsTellOrphans}

successor_orphans : (s : State) (w : ℕ) (e : Event) (a : Answer) → (successor s w e a).orphans ≡ orphans_of s.orphans e a
successor_orphans s w (event.Alloc actor arena bytes) (answer.Block handle) = refl
successor_orphans s w (event.Free actor handle) answer.Done = refl
successor_orphans s w (event.Free actor handle) answer.Parted = refl
successor_orphans s w event.Deliver answer.Done = refl
successor_orphans s w (event.Take segment) (answer.Taken n) = refl
successor_orphans s w event.Collect (answer.Pages n) = refl
successor_orphans s w (event.Write actor handle index value) answer.Done = refl
successor_orphans s w (event.Abandon segment) answer.Done = refl
successor_orphans s w (event.Refill arena) (answer.Refilled segment) = refl
successor_orphans s w _ _ = refl

pub steps_tell_orphans : StepsTellOrphans
steps_tell_orphans old new w e a step =
    ap (λ s. s.orphans) (state_is_determined old w e a new step) ∙ successor_orphans old w e a

none_leaves : (answers : List Answer) (k end : Kept) → Chosen k [] answers end → end ≡ k
none_leaves [] k end run = run
none_leaves (a ∷ answers) k end run = absurd run

-- what a line came to tells which are orphans after it
pub told_orphans : (from end : Progress) (line : Line) (t : Told) (text : List ℕ) → Answered from line end text → IsTold from line t end.kept
    → end.kept.state.orphans ≡ orphans_after from.kept.state.orphans t
told_orphans from end line (told.One e a) text answered (means, step) =
    steps_tell_orphans from.kept.state end.kept.state line.worker e a step.step
told_orphans from end line told.Listing text answered (actor, means) =
    let run = subst (λ m. Chosen from.kept (events_of from.kept.state line.worker m) answered.answers end.kept) means answered.chosen in
    ap (λ k. k.state.orphans) (looks_leave _ answered.answers from.kept end.kept line.worker actor run)
told_orphans from end line told.Unbound text answered means =
    let run = subst (λ m. Chosen from.kept (events_of from.kept.state line.worker m) answered.answers end.kept) means answered.chosen in
    ap (λ k. k.state.orphans) (none_leaves answered.answers from.kept end.kept run)

some_is : (b : Bool) (n : ℕ) → 1 + n ≡ bit_of b → true ≡ b
some_is true n counted = refl
some_is false n counted = absurd (omega (arith, counted))

none_is : (b : Bool) → 0 ≡ bit_of b → false ≡ b
none_is true counted = absurd (omega (arith, counted))
none_is false counted = refl

-- one is among them where it is counted once, and isn't where it isn't counted
any_counted : (p : ℕ → Bool) (xs : List ℕ) (b : Bool) → count_by p xs ≡ bit_of b → list_any p xs ≡ b
any_counted p [] b counted = none_is b counted
any_counted p (x ∷ xs) b counted =
    let each : cond (p x) 1 0 + count_by p xs ≡ bit_of b = sym (sum_by-cons (λ y. cond (p y) 1 0) x xs) ∙ counted in
    elim (cases_Bool (p x)) [
      | inl passes ↦ rw passes (some_is b (count_by p xs) (ap (λ c. cond c 1 0 + count_by p xs) (sym passes) ∙ each))
      | inr fails ↦
          let less : 0 + count_by p xs ≡ bit_of b = ap (λ c. cond c 1 0 + count_by p xs) (sym fails) ∙ each in
          rw fails (any_counted p xs b (omega (arith, less)))
    ]

-- nobody holds a fresh segment, and it is no orphan
fresh_is : (h : Holder) → (is_none (worker_in h) && not (is_orphan h)) ≡ is_fresh h
fresh_is fresh = refl
fresh_is orphan = refl
fresh_is (held worker) = refl

pub fresh_are_apart : FreshAreApart
fresh_are_apart s segment sound =
    let h = holder_at s segment in
    ap (λ b. is_none (worker_in h) && not b) (any_counted (λ other. other == segment) s.orphans (is_orphan h) (sound.orphans segment)) ∙ fresh_is h
