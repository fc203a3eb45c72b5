-- A run without the events of other sides.
use Rattle.std.proofs.Common.{◌≡◌, ℕ, ◌*◌, ◌==◌, inl, inr, Bool, true, false, List, [], ◌∷◌}
use Rattle.std.proofs.Common.{length, get_or, map, filter, cond, suc, Option, Some, None}
use Rattle.std.proofs.Common.{◌||◌, is_some, IfSome, replicate, refl, sym, ap, subst, ◌∙◌, arith}
use Rattle.std.specs.List.{AllByRecursion, zip}
use Rattle.std.proofs.lemmas.Bool.{cases_Bool, cases_lt, or_cases, true≢false}
use Rattle.std.proofs.lemmas.List.{get_or-replicate, get_or_past, length-replicate}
use Rattle.std.proofs.lemmas.Option.{none-some}
use Rattle.hg_place.specs.Places.{page_of, segment_of}
use Rattle.hg_machine.specs.declared.Event.{Event}
use Rattle.hg_machine.specs.declared.Event.TheVariants as event
use Rattle.hg_machine.specs.declared.Answer.{Answer}
use Rattle.hg_machine.specs.Policy.{Policy, arena_of}
use Rattle.hg_machine.specs.State.{State, fresh}
use Rattle.hg_machine.specs.Holders.{is_held_by}
use Rattle.hg_machine.specs.Steps.{successor}
use Rattle.hg_machine.specs.Lists.{Kept, list_at}
use Rattle.hg_machine.proofs.Cases.{Served, Refused, step_cases}
use Rattle.hg_machine.proofs.Preserves.{steps_keep_policy}
use Rattle.hg_machine.proofs.Serves.{served_step}
use Rattle.hg_machine.proofs.Suits.{number_some}
use Rattle.hg_laws.proofs.Refusals.{refused_is}
use Rattle.hg_choice.specs.ChosenSteps.{ChosenStep, Chosen}
use Rattle.hg_choice.proofs.ChoiceLemmas.{same_kept, choices_are_determined}
use Rattle.hg_choice.proofs.MaskedSteps.{refused_step}
use Rattle.hg_choice.proofs.Refusing.{refusal_leaves}
use Rattle.hg_purge.specs.Sides.{Sides, IsOf, NamesOnly, AreApart, is_by, purged, answers_of}
use Rattle.hg_purge.specs.SideLaws.{beginning, SidesAreAnsweredAlone, PurgedRunsAreRuns}
use Rattle.hg_purge.specs.SideLaws.{OthersDoNotShow}
use Rattle.hg_purge.proofs.Agreeing.{after, AgreeOn, IsApart, Beside, NamesAt, Names, agree_itself}
use Rattle.hg_purge.proofs.Agreeing.{agree_beside}
use Rattle.hg_purge.proofs.Staying.{served_stays}
use Rattle.hg_purge.proofs.Parting.{apart_after}
use Rattle.hg_purge.proofs.Serving.{same_refusal, same_serving}
use Rattle.hg_purge.proofs.Changing.{served_both}
use Rattle.hg_purge.proofs.Choosing.{same_chosen}

-- a served step leaves what is after it, and a refused one what was
after_is : (k : Kept) (w : ℕ) (e : Event) (a : Answer) (new : Kept) → ChosenStep k w e a new
    → Served k.state w e a new.state → new ≡ after k w e a
after_is k w e a new step is = same_kept (after k w e a) new is.after step.lists step.queues

refused_stays : (k : Kept) (w : ℕ) (e : Event) (a : Answer) (new : Kept) → ChosenStep k w e a new
    → Refused k.state w e a new.state → new ≡ k
refused_stays k w e a new step is =
    let leaves = refusal_leaves k w e a (refused_is k.state w e a is.some) in
    same_kept k new is.same (step.lists ∙ leaves.0) (step.queues ∙ leaves.1)

module _ (on own : ℕ → Bool) where
  -- the sides stay apart
  step_apart : (k : Kept) (w : ℕ) (e : Event) (a : Answer) (new : Kept) → IsApart on own k
      → Names on own (own w) k.state e → ChosenStep k w e a new → IsApart on own new
  step_apart k w e a new apart o step =
      elim (step_cases k.state w e a new.state step.step) as (λ _. IsApart on own new) [
        | inl is ↦
            subst (IsApart on own) (sym (after_is k w e a new step is))
            (apart_after on own k w e a apart is.none is.serves o)
        | inr is ↦ subst (IsApart on own) (sym (refused_stays k w e a new step is)) apart
      ]

  -- an event of another side
  step_stays : (k : Kept) (w : ℕ) (e : Event) (a : Answer) (new : Kept) → IsApart on own k
      → own w ≡ false → Names on own false k.state e → ChosenStep k w e a new
      → AgreeOn on own k new
  step_stays k w e a new apart other off step =
      elim (step_cases k.state w e a new.state step.step) as (λ _. AgreeOn on own k new) [
        | inl is ↦
            subst (AgreeOn on own k) (sym (after_is k w e a new step is))
            (served_stays k apart w other e a is.none is.serves off)
        | inr is ↦
            subst (AgreeOn on own k) (sym (refused_stays k w e a new step is))
            (agree_itself k)
      ]

  -- an event of this side has the same answer from the other keep
  abbrev Follows : Kept → Kept → ℕ → Event → Answer → Type 0
  Follows m new w e a = (last : Kept) × ChosenStep m w e a last × AgreeOn on own new last

  step_follows : (k m : Kept) (w : ℕ) (e : Event) (a : Answer) (new : Kept) → AgreeOn on own k m
      → IsApart on own k → IsApart on own m → own w ≡ true → Names on own true k.state e
      → ChosenStep k w e a new → Follows m new w e a
  step_follows k m w e a new agree here there mine o step =
      let b : Beside on own k.state m.state =
      record { same = agree.state; here = here.parted; there = there.parted } in
      let refusals = same_refusal b w mine e o in
      elim (step_cases k.state w e a new.state step.step) as (λ _. Follows m new w e a) [
        | inl is ↦ (
          after m w e a,
          record {
            step = served_step m.state w e a (successor m.state w e a) (refusals ∙ is.none)
                (same_serving b w mine e a is.none o is.serves)
                refl;
            chosen = same_chosen agree here there w mine e a is.serves step.chosen;
            lists = refl;
            queues = refl;
          },
          subst (λ x. AgreeOn on own x (after m w e a)) (sym (after_is k w e a new step is))
              (served_both agree here there w mine e a is.none is.serves o),
        )
        | inr is ↦
            let some = refusals ∙ is.some in
            let leaves = refusal_leaves m w e a (refused_is m.state w e a some) in (
              m,
              record {
                step = refused_step m.state w e a m.state some refl;
                chosen = leaves.2;
                lists = sym leaves.0;
                queues = sym leaves.1;
              },
              subst (λ x. AgreeOn on own x m) (sym (refused_stays k w e a new step is)) agree,
            )
      ]

module _ (sides : Sides) (policy : Policy) (side : ℕ) where
  -- by its arena a segment is of the side; one that there isn't is of each
  abbrev is_on : Option ℕ → Bool
  is_on None = true
  is_on (Some arena) = sides.of_arena arena == side

  abbrev on : ℕ → Bool
  on segment = is_on (arena_of policy segment)

  abbrev own : ℕ → Bool
  own w = sides.of_worker w == side

  -- what is of a worker's side is of this one where the worker is
  of_is : (o : Option ℕ) (other : ℕ) → IfSome o (λ arena. sides.of_arena arena ≡ other)
      → ((other == side) || is_some o) ≡ true → is_on o ≡ (other == side)
  of_is None other is there =
      elim (or_cases (other == side) false there) as (λ _. true ≡ (other == side)) [
        | inl t ↦ sym t
        | inr f ↦ absurd (true≢false (sym f))
      ]
  of_is (Some arena) other is there = ap (λ n. n == side) is

  named_is : (s : State) (other segment : ℕ) → s.policy ≡ policy
      → IsOf sides policy other segment → NamesAt on own (other == side) s segment
  named_is s other segment same is = λ there.
      of_is (arena_of policy segment) other is
      (ap (λ p. (other == side) || is_some (arena_of p segment)) (sym same) ∙ there)

  names_are : (s : State) (w : ℕ) (e : Event) → s.policy ≡ policy
      → NamesOnly sides policy (sides.of_worker w) e → Names on own (own w) s e
  names_are s w (event.Alloc actor arena bytes) same is = tt
  names_are s w (event.Free actor handle) same is = named_is s _ _ same is
  names_are s w event.Deliver same is = tt
  names_are s w (event.Take segment) same is = tt
  names_are s w event.Collect same is = tt
  names_are s w (event.Read actor handle index) same is = named_is s _ _ same is
  names_are s w (event.Write actor handle index value) same is = named_is s _ _ same is
  names_are s w (event.Look actor place) same is = named_is s _ _ same is
  names_are s w (event.Abandon segment) same is = tt
  names_are s w (event.Refill arena) same is = λ segment e.
      ap is_on (sym (ap (λ p. arena_of p segment) same) ∙ number_some arena _ e)
      ∙ ap (λ n. n == side) is

  -- the rest of a run, from a keep that agrees on the side
  abbrev Runs : Kept → Bool → ℕ × Event → Answer → List (ℕ × Event) → List Answer → Type 0
  Runs m mine e a events answers =
      (last : Kept)
      × Chosen m (cond mine (e ∷ purged sides side events) (purged sides side events))
      (map (λ told. told.1)
      (cond mine ((e, a) ∷ filter (λ told. is_by sides side told.0) (zip events answers))
      (filter (λ told. is_by sides side told.0) (zip events answers))))
      last

  runs : (k m new : Kept) (events : List (ℕ × Event)) (answers : List Answer)
      → AgreeOn on own k m → IsApart on own k → IsApart on own m
      → k.state.policy ≡ policy → AreApart sides policy events → Chosen k events answers new
      → (last : Kept)
      × Chosen m (purged sides side events) (answers_of sides side events answers) last
  runs k m new [] [] agree here there same apart run = (m, refl)
  runs k m new [] (a ∷ answers) agree here there same apart run = absurd run
  runs k m new (e ∷ events) [] agree here there same apart run = absurd run
  runs k m new (e ∷ events) (a ∷ answers) agree here there same apart run =
      let names = names_are k.state e.0 e.1 same (apart 0 e (omega arith)) in
      let mid_apart = step_apart on own k e.0 e.1 a run.0 here names run.1 in
      let kept = steps_keep_policy k.state e.0 e.1 a run.0.state run.1.step ∙ same in
      let rest : AreApart sides policy events = λ i d h. apart (suc i) d (omega arith) in
      elim (cases_Bool (own e.0)) as (λ _. Runs m (own e.0) e a events answers) [
        | inl mine ↦
            let mid = step_follows on own k m e.0 e.1 a run.0 agree here there mine
            (subst (λ b. Names on own b k.state e.1) mine names) run.1 in
            let other_names = names_are m.state e.0 e.1 (agree.state.policy ∙ same)
            (apart 0 e (omega arith)) in
            let later = runs run.0 mid.0 new events answers mid.2 mid_apart
            (step_apart on own m e.0 e.1 a mid.0 there other_names mid.1) kept rest run.2 in
            subst (λ b. Runs m b e a events answers) (sym mine)
            (later.0, (mid.0, mid.1, later.1))
        | inr other ↦
            let stays = step_stays on own k e.0 e.1 a run.0 here other
            (subst (λ b. Names on own b k.state e.1) other names) run.1 in
            subst (λ b. Runs m b e a events answers) (sym other)
            (runs run.0 m new events answers (agree_beside agree stays) mid_apart there kept
            rest run.2)
      ]

-- where a run begins the sides are apart
all_alike : {X : Type 0} (n i : ℕ) (d : X) → get_or (replicate n d) i d ≡ d
all_alike n i d = elim (cases_lt i n) as (λ _. get_or (replicate n d) i d ≡ d) [
  | inl below ↦ get_or-replicate n i d d below
  | inr past ↦ get_or_past _ i d (let l = length-replicate n d in omega arith)
]

nothing_filed : (of : ℕ → ℕ) (n i : ℕ)
    → AllByRecursion (λ p. of p ≡ i) (list_at (replicate n []) i)
nothing_filed of n i = subst (AllByRecursion (λ p. of p ≡ i)) (sym (all_alike n i [])) tt

begin_apart : (on own : ℕ → Bool) (policy : Policy) (queues : List (List (List ℕ)))
    → IsApart on own (beginning policy queues)
begin_apart on own policy queues =
    let pages = length policy.segments * 16 in
    let as_many : length (replicate pages []) ≡ length (replicate pages None) =
    length-replicate pages [] ∙ sym (length-replicate pages None) in
    record {
      parted = record {
        holding = λ w g h.
            absurd (true≢false (sym h
            ∙ ap (is_held_by w) (all_alike (length policy.segments) g fresh)));
        hands = λ w p h. absurd (none-some p (sym (all_alike policy.workers w None) ∙ h));
      };
      filed = record {
        free = λ i. nothing_filed page_of pages i;
        local_free = λ i. nothing_filed page_of pages i;
        thread_free = λ i. nothing_filed page_of pages i;
        delayed = λ i. nothing_filed segment_of (length policy.segments) i;
      };
      sized = record { free = as_many; local_free = as_many; thread_free = as_many };
    }

pub purged_runs_are_runs : PurgedRunsAreRuns
purged_runs_are_runs sides policy queues events answers new side apart run =
    let begin = beginning policy queues in
    let sound = begin_apart (on sides policy side) (own sides policy side) policy queues in
    runs sides policy side begin begin new events answers
    (agree_itself begin) sound sound refl apart run

pub sides_are_answered_alone : SidesAreAnsweredAlone
sides_are_answered_alone sides policy queues events answers given new last side apart run alone =
    let here = purged_runs_are_runs sides policy queues events answers new side apart run in
    (choices_are_determined (beginning policy queues) here.0 last (purged sides side events)
    (answers_of sides side events answers) given here.1 alone).0

pub others_do_not_show : OthersDoNotShow
others_do_not_show sides policy queues events others answers given new last side apart too same run
    second =
    let begin = beginning policy queues in
    let here = purged_runs_are_runs sides policy queues others given last side too second in
    sides_are_answered_alone sides policy queues events answers
    (answers_of sides side others given) new here.0 side apart run
    (subst (λ es. Chosen begin es (answers_of sides side others given) here.0) same here.1)
