-- What a step adds to what a seat knows, and what it leaves.
use Rattle.std.proofs.Common.{◌≡◌, ◌⊎◌, ◌↔◌, ◌≤◌, ℕ, zero, suc, List, [], ◌∷◌, ◌++◌, length, sym, refl}
use Rattle.std.proofs.Common.{◌∙◌, subst}
use Rattle.std.proofs.Common.{inl, inr, ⊎_elim, arith, eq-eqb}
use mathlib.Core.Logic.{dite}
use mathlib.Core.Option.{some, some-injective, some-ne-none}
use native.Mathlib.Decide.{ℕ_discrete}
use lib.ListN.{get_elem?}
use Rattle.atomic_table.proofs.Lists.{at_snoc}
use Rattle.hg_place.specs.Lives.{word_generation, word_life}
use Rattle.hg_table.specs.declared.view.Part.{Part}
use Rattle.hg_table.specs.Seats.{HasStepped, ended_after}
use Rattle.hg_table.specs.Steps.{WordStep, look, open_as, close_from, part_from, take_home, PartMayMake, MayMake, MayMakeBy}
use Rattle.hg_table.specs.View.{View}
use Rattle.hg_table.specs.KnownLaws.{IsEndedBy, StepsAddOneLife, MeetingsAreApart, NothingIsKnown}
use Rattle.hg_table.specs.KnownLaws.{LeftIsPastSeen}
use Rattle.hg_table.proofs.Knowing.{between}
use Rattle.hg_table.proofs.LifeLaws.{from_new, forward}
use Rattle.hg_table.proofs.Told.{not_ended}
use Rattle.hg_table.proofs.WordSteps.{pair_is}

-- the pair stands in the list
abbrev Stands : List (ℕ × ℕ) → ℕ → ℕ → Type 0
Stands l q w = (k : ℕ) × (get_elem? l k ≡ some (q, w))

stands_none : (l : List (ℕ × ℕ)) (q w : ℕ) → l ≡ [] → Stands l q w → ⊥
stands_none l q w none s =
    some-ne-none (q, w) (sym (subst (λ (z : List (ℕ × ℕ)). get_elem? z s.0 ≡ some (q, w)) none s.1))

none_stands : (l : List (ℕ × ℕ)) → ((q w : ℕ) → Stands l q w → ⊥) → l ≡ []
none_stands [] not = refl
none_stands (x ∷ xs) not = absurd (not x.0 x.1 (0, refl))

-- a list with one more at its end
before_end : (l : List (ℕ × ℕ)) (a b : ℕ × ℕ) (k : ℕ) → get_elem? l k ≡ some b
    → get_elem? (l ++ a ∷ []) k ≡ some b
before_end [] a b k e = absurd (some-ne-none b (sym e))
before_end (x ∷ xs) a b zero e = e
before_end (x ∷ xs) a b (suc k) e = before_end xs a b k e

at_the_end : (l : List (ℕ × ℕ)) (a : ℕ × ℕ) → get_elem? (l ++ a ∷ []) (length l) ≡ some a
at_the_end [] a = refl
at_the_end (x ∷ xs) a = at_the_end xs a

module _ (l new : List (ℕ × ℕ)) (p v : ℕ) (is : new ≡ l ++ (p, v) ∷ []) where
  still_stands : (q w : ℕ) → Stands l q w → Stands new q w
  still_stands q w s = (
    s.0,
    subst (λ (z : List (ℕ × ℕ)). get_elem? z s.0 ≡ some (q, w)) (sym is)
        (before_end l (p, v) (q, w) s.0 s.1),
  )

  stands_here : Stands new p v
  stands_here = (
    length l,
    subst (λ (z : List (ℕ × ℕ)). get_elem? z (length l) ≡ some (p, v)) (sym is)
        (at_the_end l (p, v)),
  )

  stood_or_here : (q w : ℕ) → Stands new q w → Stands l q w ⊎ ((q ≡ p) × (w ≡ v))
  stood_or_here q w s =
      ⊎_elim (λ (o : get_elem? l s.0 ≡ some (q, w)). inl (s.0, o))
      (λ (e : ◌≡◌ {A = ℕ × ℕ} (p, v) (q, w)). let same = pair_is p v q w e in
      inr (sym same.0, sym same.1))
      (at_snoc l (p, v) (q, w) s.0
      (subst (λ (z : List (ℕ × ℕ)). get_elem? z s.0 ≡ some (q, w)) is s.1))

-- what a step that found u and left v makes of the lives that were ended
has_ended : (p u v : ℕ) (l : List (ℕ × ℕ)) → word_life u ≡ 1 → word_life v ≡ 0
    → ended_after p u v l ≡ l ++ (p, word_generation u) ∷ []
has_ended p u v l live over = rw (eq-eqb (word_life u) 1 live, eq-eqb (word_life v) 0 over) refl

module _ (p u v : ℕ) (part after : Part) (step : HasStepped part p u v after) where
  same_lives : (word_life u ≡ 1 → word_life v ≡ 1) → after.ended ≡ part.ended
  same_lives none = step.2 ∙ not_ended p u v part.ended none

  one_life : word_life u ≡ 1 → word_life v ≡ 0
      → after.ended ≡ part.ended ++ (p, word_generation u) ∷ []
  one_life live over = step.2 ∙ has_ended p u v part.ended live over

  was_there : (q g : ℕ) → after.ended ≡ part.ended → Stands after.ended q g → Stands part.ended q g
  was_there q g same s = subst (λ (z : List (ℕ × ℕ)). Stands z q g) same s

  ended : (q g : ℕ) → Stands after.ended q g → Stands part.ended q g ⊎ IsEndedBy p u v q g
  ended q g s = dite (ℕ_discrete (word_life u) 1)
      (λ live. dite (ℕ_discrete (word_life v) 0)
      (λ over. ⊎_elim (λ (o : Stands part.ended q g). inl o)
      (λ (e : (q ≡ p) × (g ≡ word_generation u)).
      inr (record { here = e.0; life = e.1; live = live; over = over }))
      (stood_or_here part.ended after.ended p (word_generation u) (one_life live over) q g s))
      (λ alive. inl (was_there q g (same_lives (λ _. omega arith)) s)))
      (λ dead. inl (was_there q g (same_lives (λ live. absurd (dead live))) s))

  ended_still : (q g : ℕ) → Stands part.ended q g → Stands after.ended q g
  ended_still q g s = dite (ℕ_discrete (word_life u) 1)
      (λ live. dite (ℕ_discrete (word_life v) 0)
      (λ over. still_stands part.ended after.ended p (word_generation u) (one_life live over) q g s)
      (λ alive. subst (λ (z : List (ℕ × ℕ)). Stands z q g) (sym (same_lives (λ _. omega arith))) s))
      (λ dead. subst (λ (z : List (ℕ × ℕ)). Stands z q g)
      (sym (same_lives (λ live. absurd (dead live)))) s)

  ended_here : (q g : ℕ) → IsEndedBy p u v q g → Stands after.ended q g
  ended_here q g by =
      subst (λ (z : ℕ × ℕ). Stands after.ended z.0 z.1) (λ i. (sym by.here i, sym by.life i))
      (stands_here part.ended after.ended p (word_generation u) (one_life by.live by.over))

pub steps_add_one_life : StepsAddOneLife
steps_add_one_life = record {
  ended = λ p u v q g part after step s. ended p u v part after step q g s;
  ended_here = λ p u v q g part after step by. ended_here p u v part after step q g by;
  ended_still = λ p u v q g part after step s. ended_still p u v part after step q g s;
  seen = λ p u v q w part after step s. stood_or_here part.seen after.seen p v step.1 q w s;
  seen_here = λ p u v part after step. stands_here part.seen after.seen p v step.1;
  seen_still = λ p u v q w part after step s. still_stands part.seen after.seen p v step.1 q w s;
}

pub meetings_are_apart : MeetingsAreApart
meetings_are_apart = record {
  lives = λ p w q g a b a' b' met ea eb.
      let x = was_there p w w a a' met.step q g (same_lives p w w a a' met.step (λ l. l)) ea in
      let y =
      was_there p w w b b' met.step_other q g (same_lives p w w b b' met.step_other (λ l. l)) eb in
      met.apart.ended x.0 y.0 q g x.1 y.1;
  seen = λ p w a b a' b' met. (
    stands_here a.seen a'.seen p w met.step.1,
    stands_here b.seen b'.seen p w met.step_other.1,
  );
}

pub nothing_is_known : NothingIsKnown
nothing_is_known = record {
  seen = λ q w part none s. stands_none part.seen q w none.0 s;
  ended = λ q g part none s. stands_none part.ended q g none.1 s;
  nothing = λ part seen ended. (none_stands part.seen seen, none_stands part.ended ended);
}

pub left_is_past_seen : LeftIsPastSeen
left_is_past_seen places p id i j before s view step part to inside at may has seen =
    let r = from_new places s to in
    let wide = r.all_words in
    between before _ _ (r.seen_is_past i j part has seen.0 p before seen.1)
    (forward places s r p id view at (omega (arith, inside)) step may)

-- a part of a seat may make what a seat of it alone may
module _ (by at : ℕ) (view : View) (part : Part) (there : get_elem? view by ≡ some part) (place : 1 ≤ at) where
  found : (other : Part) → get_elem? view by ≡ some other → other ≡ part
  found other e = some-injective other part (sym e ∙ there)

  by_part : (step : WordStep) → PartMayMake step at part → MayMakeBy by step at view
  by_part step may = (place, part, there, may)

  of_part : (step : WordStep) → MayMakeBy by step at view → PartMayMake step at part
  of_part step may = subst (λ (z : Part). PartMayMake step at z) (found may.1 may.2) may.3

  pub may_alone : (step : WordStep) → MayMake step at (part ∷ []) ↔ MayMakeBy by step at view
  may_alone look = (λ may. by_part look tt, λ may. tt)
  may_alone (open_as live) = (λ may. by_part (open_as live) may.1, λ may. ((place, refl), of_part (open_as live) may))
  may_alone (close_from expected) = (λ may. by_part (close_from expected) may.1, λ may. ((place, refl), of_part (close_from expected) may))
  may_alone (part_from expected) = (λ may. by_part (part_from expected) may.1, λ may. ((place, refl), of_part (part_from expected) may))
  may_alone take_home = (λ may. by_part take_home may.1, λ may. ((place, refl), of_part take_home may))
