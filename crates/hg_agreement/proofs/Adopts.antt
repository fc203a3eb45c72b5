-- Adopting a segment, in the state of a core.
use Rattle.std.proofs.Common.{◌≡◌, ℕ, ◌==◌, ◌<◌, ◌≤◌, inl, inr, true, false, cond, not, ◌||◌, ◌∷◌}
use Rattle.std.proofs.Common.{[], ◌++◌, List, length, set, filter, Option, Some, None, refl, sym}
use Rattle.std.proofs.Common.{ap, ◌∙◌, arith, find, is_some, count_by}
use Rattle.std.specs.List.{list_any}
use Rattle.std.proofs.lemmas.Bool.{cases_eq, cases_lt, cases_Bool, ne_eqb, eqb-true, true≢false}
use Rattle.std.proofs.lemmas.List.{length-set, get_or_past}
use Rattle.std.proofs.lemmas.List.Elements.{filter-append}
use Rattle.std.proofs.lemmas.Option.{none-some}
use Rattle.hg_machine.specs.State.{held}
use Rattle.hg_machine.specs.Changes.{adopted}
use Rattle.hg_agreement.specs.Holdings.{has}
use Rattle.hg_agreement.specs.Parts.{Plain, Parts, is_of, heap_at, holdings, worker_of, plain_by}
use Rattle.hg_agreement.specs.Parts.{plain_of, holder_by, holder_of, state_of}
use Rattle.hg_agreement.specs.LeftPut.{numbers}
use Rattle.hg_agreement.specs.Pool.{IsPooled, without, with_adopted, IsTakenUp, TakenUpIsAdopted}
use Rattle.hg_agreement.proofs.Bridge.{some_passes}
use Rattle.hg_agreement.proofs.ReplacedHeap.{has_found, one_has, ReplacesHeap, heap_here}
use Rattle.hg_agreement.proofs.ReplacedHeap.{heap_there, find_each, has_each, found_has, worker_each}
use Rattle.hg_agreement.proofs.ReplacedHeap.{state_rehoused}
use Rattle.hg_agreement.proofs.Firsts.{some_counted, any_found, pool_inside, pool_unheld}

pub find_without : (n segment : ℕ) (xs : List Plain) → (segment ≡ n → ⊥)
    → find (is_of segment) (without n xs) ≡ find (is_of segment) xs
find_without n segment [] ne = refl
find_without n segment (x ∷ xs) ne =
    elim (cases_Bool (x.holding.number == n)) [
      | inl t ↦
          ap (λ b. find (is_of segment) (cond (not b) (x ∷ without n xs) (without n xs))) t
          ∙ find_without n segment xs ne
          ∙ sym (ap (λ b. cond b (Some x) (find (is_of segment) xs))
          (ne_eqb x.holding.number segment (λ e. ne (sym e ∙ eqb-true x.holding.number n t))))
      | inr f ↦
          ap (λ b. find (is_of segment) (cond (not b) (x ∷ without n xs) (without n xs))) f
          ∙ ap (λ o. cond (x.holding.number == segment) (Some x) o) (find_without n segment xs ne)
    ]

pub any_without : (n segment : ℕ) (xs : List Plain) → (segment ≡ n → ⊥)
    → list_any (is_of segment) (without n xs) ≡ list_any (is_of segment) xs
any_without n segment [] ne = refl
any_without n segment (x ∷ xs) ne =
    elim (cases_Bool (x.holding.number == n)) [
      | inl t ↦
          ap (λ b. list_any (is_of segment) (cond (not b) (x ∷ without n xs) (without n xs))) t
          ∙ any_without n segment xs ne
          ∙ sym (ap (λ b. b || list_any (is_of segment) xs)
          (ne_eqb x.holding.number segment (λ e. ne (sym e ∙ eqb-true x.holding.number n t))))
      | inr f ↦
          ap (λ b. list_any (is_of segment) (cond (not b) (x ∷ without n xs) (without n xs))) f
          ∙ ap (λ b. (x.holding.number == segment) || b) (any_without n segment xs ne)
    ]

pub numbers_without : (n : ℕ) (xs : List Plain) → numbers (without n xs) ≡ filter
    (λ k. not (k == n)) (numbers xs)
numbers_without n [] = refl
numbers_without n (x ∷ xs) =
    elim (x.holding.number == n) as (λ b. numbers (cond (not b) (x ∷ without n xs) (without n xs))
    ≡ cond (not b) (x.holding.number ∷ filter (λ k. not (k == n)) (numbers xs))
    (filter (λ k. not (k == n)) (numbers xs))) [
      | true ↦ numbers_without n xs
      | false ↦ ap (λ l. x.holding.number ∷ l) (numbers_without n xs)
    ]

module _ (parts : Parts) (w : ℕ) (heap : List Plain) (one : Plain) (pooled : IsPooled parts)
    (up : IsTakenUp parts w heap one) where
  abbrev n : ℕ
  n = one.holding.number

  abbrev after : Parts
  after = with_adopted parts w heap n

  new : ReplacesHeap parts after w heap
  new = record { heaps = refl; below = up.worker_below }

  others : (segment : ℕ) → (segment ≡ n → ⊥)
      → has (holdings heap) segment ≡ has (holdings (heap_at parts w)) segment
  others segment ne = found_has heap (heap_at parts w) segment (up.others segment ne)

  counted : 1 ≤ count_by (is_of n) (parts.orphans ++ parts.fresh)
  counted = some_counted (is_of n) (parts.orphans ++ parts.fresh)
      (any_found (is_of n) (parts.orphans ++ parts.fresh) one up.there)

  unheld : worker_of parts n ≡ None
  unheld = pool_unheld parts n pooled counted

  pub up_inside : n < length parts.policy.segments
  up_inside = pool_inside parts n pooled counted

  -- what heaps have, and the worker of a segment, once it is taken up
  pub up_has : (segment v : ℕ) → (segment ≡ n → ⊥)
      → has (holdings (heap_at after v)) segment ≡ has (holdings (heap_at parts v)) segment
  up_has segment v ne = has_each new segment (others segment ne) v

  -- no heap had it, and it is in this heap alone
  had_not : (v : ℕ) → has (holdings (heap_at parts v)) n ≡ true → ⊥
  had_not v t = elim (cases_lt v (length parts.heaps)) [
    | inl below ↦
        let some = some_passes (λ u. has (holdings (heap_at parts u)) n) 0 (length parts.heaps) v
        (omega arith) (omega arith) t in
        none-some some.0 (sym unheld ∙ some.1)
    | inr past ↦ true≢false (sym t
        ∙ ap (λ h. has (holdings h) n) (get_or_past parts.heaps v [] past))
  ]

  pub up_only : (v : ℕ) → has (holdings (heap_at after v)) n ≡ true → v ≡ w
  up_only v t = elim (cases_eq v w) [
    | inl e ↦ e
    | inr ne ↦ absurd (had_not v (sym (ap (λ h. has (holdings h) n) (heap_there new v ne)) ∙ t))
  ]

  pub up_worker : (segment : ℕ) → (segment ≡ n → ⊥)
      → worker_of after segment ≡ worker_of parts segment
  up_worker segment ne = worker_each new segment (others segment ne)

  pub up_now : worker_of after n ≡ Some w
  up_now =
      let l = length-set parts.heaps w heap in
      let b = up.worker_below in
      one_has after w n (omega arith)
      (ap (λ h. has (holdings h) n) (heap_here new) ∙ has_found heap n ∙ ap is_some up.came) up_only

  by_same : (segment : ℕ) (o : Option ℕ) → (segment ≡ n → ⊥)
      → plain_by after segment o ≡ plain_by parts segment o
  by_same segment (Some v) ne = find_each new segment (up.others segment ne) v
  by_same segment None ne =
      ap (find (is_of segment))
      (sym (filter-append (λ k. not (is_of n k)) parts.orphans parts.fresh))
      ∙ find_without n segment (parts.orphans ++ parts.fresh) ne

  pub up_plain : (segment : ℕ) → plain_of after segment ≡ plain_of parts segment
  up_plain segment = elim (cases_eq segment n) [
    | inl e ↦
        rw e (ap (plain_by after n) up_now ∙ ap (find (is_of n)) (heap_here new) ∙ up.came
        ∙ sym (ap (plain_by parts n) unheld ∙ up.there))
    | inr ne ↦ ap (plain_by after segment) (up_worker segment ne)
        ∙ by_same segment (worker_of parts segment) ne
  ]

  holder_other : (segment : ℕ) → (segment ≡ n → ⊥)
      → holder_of after segment ≡ holder_of parts segment
  holder_other segment ne =
      ap (λ o. holder_by o (list_any (is_of segment) (without n parts.orphans)))
      (up_worker segment ne)
      ∙ ap (holder_by (worker_of parts segment)) (any_without n segment parts.orphans ne)

  adopts : state_of after ≡ adopted (state_of parts) w n
  adopts =
      state_rehoused parts (set parts.heaps w heap) (without n parts.orphans)
      (without n parts.fresh) n (held w) up_inside up_plain holder_other
      (ap (λ o. holder_by o (list_any (is_of n) (without n parts.orphans))) up_now)
      ∙ ap (λ os. record (state_of parts) {
        holders = set (state_of parts).holders n (held w);
        orphans = os;
      }) (numbers_without n parts.orphans)

pub taken_up_is_adopted : TakenUpIsAdopted
taken_up_is_adopted parts worker heap one pooled up = adopts parts worker heap one pooled up
