-- How many entries stand on all lists together, after a push and a removal.
use Rattle.std.proofs.Common.{◌≡◌, ℕ, ◌+◌, ◌<◌, List, [], ◌∷◌, length, map, cond, nat_eq, refl, ap, arith, inl, inr}
use Rattle.std.specs.List.{concat, sum_by}
use Rattle.std.proofs.lemmas.Bool.{cases_eq}
use Rattle.std.proofs.lemmas.List.Sums.{sum_by-cons, sum_by-set}
use Rattle.hg_lists.specs.Lists.{Lists, IsSomewhere, IsNowhere, AreApart, list_of, without, with_front, without_entry}
use Rattle.hg_lists.specs.Totals.{total}
use Rattle.hg_lists.proofs.RepeatsLemmas.{nat_eq-same, nat_eq-other}
use Rattle.hg_lists.proofs.Without.{without-same, without-other}
use Rattle.hg_lists.proofs.Counted.{times, times-append, times-concat_somewhere}
use Rattle.hg_lists.proofs.Listed.{without_entry-nowhere}

pub total-front : (m : Lists) (key entry : ℕ) → key < length m.by_key → total (with_front m key entry) ≡ total m + 1
total-front m key entry lt = omega (arith, sum_by-set length m.by_key key (entry ∷ list_of m key) [] lt)

-- a list loses its entry as often as it stands there
length-without : (entry : ℕ) (xs : List ℕ) → length (without entry xs) + times entry xs ≡ length xs
length-without entry [] = refl
length-without entry (x ∷ xs) =
    let step : times entry (x ∷ xs) ≡ cond {A = ℕ} (nat_eq x entry) 1 0 + times entry xs = sum_by-cons (λ other. cond {A = ℕ} (nat_eq other entry) 1 0) x xs in
    elim (cases_eq x entry) [
      | inl e ↦ (let one : cond {A = ℕ} (nat_eq x entry) 1 0 ≡ 1 = rw (e, nat_eq-same entry) refl in
          rw (without-same entry x xs e) (omega (arith, step, one, length-without entry xs)))
      | inr ne ↦ (let none : cond {A = ℕ} (nat_eq x entry) 1 0 ≡ 0 = rw (nat_eq-other x entry ne) refl in
          rw (without-other entry x xs ne) (omega (arith, step, none, length-without entry xs)))
    ]

sum-without : (entry : ℕ) (lists : List (List ℕ)) → sum_by length (map (without entry) lists) + times entry (concat lists) ≡ sum_by length lists
sum-without entry [] = refl
sum-without entry (xs ∷ lists) = omega (
  arith,
  sum_by-cons length (without entry xs) (map (without entry) lists),
  sum_by-cons length xs lists,
  length-without entry xs,
  times-append entry xs (concat lists),
  sum-without entry lists,
)

pub total-without : (m : Lists) (entry : ℕ) → AreApart m → IsSomewhere m entry → total (without_entry m entry) + 1 ≡ total m
total-without m entry h s = omega (arith, sum-without entry m.by_key, times-concat_somewhere m entry h s)

pub total-without_nowhere : (m : Lists) (entry : ℕ) → IsNowhere m entry → total (without_entry m entry) ≡ total m
total-without_nowhere m entry away = ap total (without_entry-nowhere m entry away)
