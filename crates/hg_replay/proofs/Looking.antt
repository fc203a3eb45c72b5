-- Looks at places, one after another.
use Rattle.std.proofs.Common.{◌≡◌, ℕ, ◌+◌, ◌*◌, ◌-◌, ◌<◌, ◌≤◌, zero, suc, Bool, true, false, not}
use Rattle.std.proofs.Common.{max, Option, Some, None, List, [], ◌∷◌, ◌++◌, length, filter, refl}
use Rattle.std.proofs.Common.{sym, ap, subst, ◌∙◌, arith, append-nil, length-append}
use Rattle.std.specs.List.{range_with_len}
use Rattle.std.proofs.lemmas.Bool.{true≢false}
use Rattle.std.proofs.lemmas.List.{map-append}
use Rattle.std.proofs.lemmas.List.Elements.{filter-append}
use Rattle.std.proofs.lemmas.Grind.{flat_map-append}
use Rattle.hg_place.specs.declared.Actor.{Actor}
use Rattle.hg_place.specs.declared.Place.{Place}
use Rattle.hg_place.specs.declared.Right.TheVariants as right
use Rattle.hg_place.specs.Places.{place_at, number_of, segment_of}
use Rattle.hg_machine.specs.Policy.{Policy}
use Rattle.hg_machine.specs.Life.{home, is_live}
use Rattle.hg_machine.specs.State.{State, record_at}
use Rattle.hg_machine.specs.Holders.{holds}
use Rattle.hg_machine.specs.Denial.{denial}
use Rattle.hg_machine.specs.Refusal.{denial_or, refusal}
use Rattle.hg_machine.specs.Steps.{Step}
use Rattle.hg_machine.specs.Lists.{Kept}
use Rattle.hg_machine.specs.declared.Event.{Event}
use Rattle.hg_machine.specs.declared.Event.TheVariants as event
use Rattle.hg_machine.specs.declared.Answer.{Answer}
use Rattle.hg_machine.specs.declared.Answer.TheVariants as answer
use Rattle.hg_machine.specs.declared.Rule.{Rule}
use Rattle.hg_machine.proofs.Allowed.{allowed}
use Rattle.hg_machine.proofs.Answered.{of_some, state_is_determined}
use Rattle.hg_choice.specs.ChosenSteps.{ChosenStep, Chosen}
use Rattle.hg_choice.proofs.ChoiceLemmas.{same_kept}
use Rattle.hg_replay.specs.declared.replaying.output.Output.{Output}
use Rattle.hg_replay.specs.Listings.{held_among, looks_at}
use Rattle.hg_replay.specs.Looked.{Looked}
use Rattle.hg_replay.specs.Rows.{is_row}
use Rattle.hg_replay.specs.Text.{answer_line, answer_lines}
use Rattle.hg_replay.specs.Sinks.{Seen}
use Rattle.hg_replay.specs.Writes.{Emits}
use Rattle.hg_replay.proofs.Writes.{emits_then, emits_none}

pub look_keeps : (s new : State) (worker : ℕ) (actor : Actor) (place : Place) (answer : Answer)
    → Step s worker (event.Look actor place) answer new → new ≡ s
look_keeps s new worker actor place answer step = state_is_determined s worker (event.Look actor place) answer new step

-- all that is kept stays
pub look_leaves : (k new : Kept) (worker : ℕ) (actor : Actor) (place : Place) (answer : Answer)
    → ChosenStep k worker (event.Look actor place) answer new → new ≡ k
look_leaves k new worker actor place answer step =
    same_kept k new (look_keeps k.state new.state worker actor place answer step.step) step.lists step.queues

pub looks_leave : (places : List ℕ) (answers : List Answer) (k end : Kept) (worker : ℕ) (actor : Actor)
    → Chosen k (looks_at worker actor places) answers end → end ≡ k
looks_leave [] [] k end worker actor run = run
looks_leave [] (a ∷ answers) k end worker actor run = absurd run
looks_leave (place ∷ places) [] k end worker actor run = absurd run
looks_leave (place ∷ places) (a ∷ answers) k end worker actor run =
    looks_leave places answers run.0 end worker actor run.2 ∙ look_leaves k run.0 worker actor (place_at place) a run.1

-- one run with its choices, and then another
pub chosen_then : (events more : List (ℕ × Event)) (answers rest : List Answer) (old mid new : Kept)
    → Chosen old events answers mid → Chosen mid more rest new → Chosen old (events ++ more) (answers ++ rest) new
chosen_then [] more [] rest old mid new run then = subst (λ k. Chosen k more rest new) run then
chosen_then [] more (a ∷ answers) rest old mid new run then = absurd run
chosen_then (e ∷ es) more [] rest old mid new run then = absurd run
chosen_then (e ∷ es) more (a ∷ answers) rest old mid new run then =
    (run.0, run.1, chosen_then es more answers rest run.0 mid new run.2 then)

answer_lines-append : (policy : Policy) (one other : List Answer) → answer_lines policy (one ++ other) ≡ answer_lines policy one ++ answer_lines policy other
answer_lines-append policy one other = flat_map-append (answer_line policy) one other

-- nothing is looked at
pub looked_none : (k : Kept) (worker : ℕ) (actor : Actor) (a : Seen) (x : Output) → Looked k worker actor [] 0 a x a x
looked_none k worker actor a x = record { answers = []; chosen = refl; counted = refl; given = emits_none a x }

-- some places are looked at, and then others
pub looked_then : (k : Kept) (worker : ℕ) (actor : Actor) (one other : List ℕ) (m n : ℕ) (a b c : Seen) (x y z : Output)
    → Looked k worker actor one m a x b y → Looked k worker actor other n b y c z → Looked k worker actor (one ++ other) (m + n) a x c z
looked_then k worker actor one other m n a b c x y z first second =
    let split = filter-append is_row first.answers second.answers in
    record {
      answers = first.answers ++ second.answers;
      chosen =
          subst (λ events. Chosen k events (first.answers ++ second.answers) k)
          (sym (map-append (λ place. (worker, event.Look actor (place_at place))) one other))
          (chosen_then (looks_at worker actor one) (looks_at worker actor other) first.answers second.answers k k k first.chosen second.chosen);
      counted =
          rw (first.counted, second.counted) (sym (ap (λ l. length l) split ∙ length-append (filter is_row first.answers) (filter is_row second.answers)));
      given =
          subst (Emits a x c z)
          (sym (ap (answer_lines k.state.policy) split ∙ answer_lines-append k.state.policy (filter is_row first.answers) (filter is_row second.answers)))
          (emits_then a b c x y z (answer_lines k.state.policy (filter is_row first.answers)) (answer_lines k.state.policy (filter is_row second.answers)) first.given second.given);
    }

module _ (k : Kept) (worker : ℕ) (actor : Actor) (place : ℕ) (answer : Answer) (step : ChosenStep k worker (event.Look actor (place_at place)) answer k)
    (a : Seen) (x : Output) where
  -- a place is looked at, and there is no row
  pub looked_past : is_row answer ≡ false → Looked k worker actor (place ∷ []) 0 a x a x
  looked_past miss = record {
    answers = answer ∷ [];
    chosen = (k, step, refl);
    counted = rw miss refl;
    given = rw miss (emits_none a x);
  }

  -- or there is one
  pub looked_row : (b : Seen) (y : Output) → is_row answer ≡ true → Emits a x b y (answer_line k.state.policy answer)
      → Looked k worker actor (place ∷ []) 1 a x b y
  looked_row b y hit given = record {
    answers = answer ∷ [];
    chosen = (k, step, refl);
    counted = rw hit refl;
    given = rw hit (subst (Emits a x b y) (sym (append-nil (answer_line k.state.policy answer))) given);
  }

pub range_then : (a m n : ℕ) → range_with_len a (m + n) ≡ range_with_len a m ++ range_with_len (a + m) n
range_then a zero n = let d : 0 + n ≡ n = omega arith in let e : a + 0 ≡ a = omega arith in rw (d, e) refl
range_then a (suc m) n =
    let d : suc m + n ≡ suc (m + n) = omega arith in
    let e : a + suc m ≡ (a + 1) + m = omega arith in
    rw (d, e) (ap (λ l. a ∷ l) (range_then (a + 1) m n))

-- more places of a range are looked at
pub looked_more : (k : Kept) (worker : ℕ) (actor : Actor) (first n many at next m rows : ℕ)
    (a b c : Seen) (x y z : Output)
    → at ≡ first + n → next ≡ n + many
    → Looked k worker actor (range_with_len first n) m a x b y → Looked k worker actor
    (range_with_len at many) rows b y c z
    → Looked k worker actor (range_with_len first next) (m + rows) a x c z
looked_more k worker actor first n many at next m rows a b c x y z here then one two =
    subst (λ places. Looked k worker actor places (m + rows) a x c z)
    (ap (λ p. range_with_len first n ++ range_with_len p many) here ∙ sym (range_then first n many)
    ∙ ap (range_with_len first) (sym then))
    (looked_then k worker actor (range_with_len first n) (range_with_len at many) m rows a b c x y z
    one two)

-- a place that is home has no block, so a Look at it is denied
rule_of : (o : Option Rule) → (o ≡ None → ⊥) → (rule : Rule) × (o ≡ Some rule)
rule_of None denied = absurd (denied refl)
rule_of (Some rule) denied = (rule, refl)

module _ (k : Kept) (worker : ℕ) (actor : Actor) (a : Seen) (x : Output) where
  looked_home : (n : ℕ) → n < 64 * 8192 → (record_at k.state n).life ≡ home → Looked k worker actor
      (n ∷ []) 0 a x a x
  looked_home n below is =
      let place = place_at n in
      let r = record_at k.state (number_of place) in
      let same : number_of place ≡ n = omega (arith, below) in
      let dead : is_live r.life ≡ false = ap (λ p. is_live (record_at k.state p).life) same ∙ ap
      is_live is in
      let expected = max 1 r.generation in
      let rule = rule_of (denial k.state actor.0 right.List place expected)
      (λ none. true≢false (sym (allowed k.state actor.0 right.List place expected none).alive
      ∙ dead)) in
      let event = event.Look actor place in
      let refused = answer.Denied rule.0 in
      let why : refusal k.state worker event ≡ Some refused =
      ap (λ d. denial_or d ((not (holds k.state worker place.segment), answer.Elsewhere) ∷ []))
      rule.1 in
      looked_past k worker actor n refused
      (record {
        step = of_some (refusal k.state worker event) _ (λ r. (refused ≡ r) × (k.state ≡ k.state))
            refused why (refl, refl);
        chosen = tt;
        lists = refl;
        queues = refl;
      })
      a x refl

  looked_homes : (first n : ℕ) → first + n ≤ 64 * 8192
      → ((p : ℕ) → first ≤ p → p < first + n → (record_at k.state p).life ≡ home)
      → Looked k worker actor (range_with_len first n) 0 a x a x
  looked_homes first zero below all = looked_none k worker actor a x
  looked_homes first (suc n) below all =
      looked_then k worker actor (first ∷ []) (range_with_len (first + 1) n) 0 0 a a a x x x
      (looked_home first (omega (arith, below)) (all first (omega arith) (omega arith)))
      (looked_homes (first + 1) n (omega (arith, below))
      (λ p from less. all p (omega (arith, from)) (omega (arith, less))))

-- the first places of a range are looked at, and the others are home
pub looked_past_home : (k : Kept) (worker : ℕ) (actor : Actor) (first n all rows : ℕ) (a b : Seen)
    (x y : Output) → n ≤ all
    → first + all ≤ 64 * 8192 → ((p : ℕ) → first + n ≤ p → p < first + all
    → (record_at k.state p).life ≡ home)
    → Looked k worker actor (range_with_len first n) rows a x b y → Looked k worker actor
    (range_with_len first all) rows a x b y
looked_past_home k worker actor first n all rows a b x y low below others looked =
    let rest = all - n in
    let none : rows + 0 ≡ rows = omega arith in
    subst (λ m. Looked k worker actor (range_with_len first all) m a x b y) none
    (looked_more k worker actor first n rest (first + n) all rows 0 a b b x y y refl
    (omega (arith, low)) looked
    (looked_homes k worker actor b y (first + n) rest (omega (arith, low, below))
    (λ p from less. others p from (omega (arith, less, low)))))

-- a range that a test takes whole, or not at all
pub filter_taken : (p : ℕ → Bool) (a n : ℕ) → ((k : ℕ) → a ≤ k → k < a + n → p k ≡ true) → filter p (range_with_len a n) ≡ range_with_len a n
filter_taken p a zero all = refl
filter_taken p a (suc n) all =
    rw (all a (omega arith) (omega arith)) (ap (λ l. a ∷ l) (filter_taken p (a + 1) n (λ k from below. all k (omega arith) (omega arith))))

pub filter_passed : (p : ℕ → Bool) (a n : ℕ) → ((k : ℕ) → a ≤ k → k < a + n → p k ≡ false) → filter p (range_with_len a n) ≡ []
filter_passed p a zero none = refl
filter_passed p a (suc n) none =
    rw (none a (omega arith) (omega arith)) (filter_passed p (a + 1) n (λ k from below. none k (omega arith) (omega arith)))

pub in_segment : (segment k : ℕ) → segment * 8192 ≤ k → k < segment * 8192 + 8192 → segment_of k ≡ segment
in_segment segment k from below = omega arith

module _ (s : State) (worker segment : ℕ) where
  pub held_whole : holds s worker segment ≡ true → held_among s worker (range_with_len (segment * 8192) 8192) ≡ range_with_len (segment * 8192) 8192
  held_whole held =
      filter_taken (λ place. holds s worker (segment_of place)) (segment * 8192) 8192
      (λ k from below. ap (holds s worker) (in_segment segment k from below) ∙ held)

  pub held_none : holds s worker segment ≡ false → held_among s worker (range_with_len (segment * 8192) 8192) ≡ []
  held_none other =
      filter_passed (λ place. holds s worker (segment_of place)) (segment * 8192) 8192
      (λ k from below. ap (holds s worker) (in_segment segment k from below) ∙ other)

  pub held_more : held_among s worker (range_with_len 0 ((segment + 1) * 8192))
      ≡ held_among s worker (range_with_len 0 (segment * 8192)) ++ held_among s worker (range_with_len (segment * 8192) 8192)
  held_more =
      let e : (segment + 1) * 8192 ≡ segment * 8192 + 8192 = omega arith in
      let z : 0 + segment * 8192 ≡ segment * 8192 = omega arith in
      ap (λ n. held_among s worker (range_with_len 0 n)) e
      ∙ ap (held_among s worker) (range_then 0 (segment * 8192) 8192 ∙ ap (λ a. range_with_len 0 (segment * 8192) ++ range_with_len a 8192) z)
      ∙ filter-append (λ place. holds s worker (segment_of place)) (range_with_len 0 (segment * 8192)) (range_with_len (segment * 8192) 8192)
