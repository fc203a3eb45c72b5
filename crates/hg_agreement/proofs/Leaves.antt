-- Abandoning a segment, in the state of a core.
use Rattle.std.proofs.Common.{◌≡◌, ℕ, ◌==◌, inl, inr, Bool, true, false, cond, ◌||◌, ◌∷◌, [], ◌++◌}
use Rattle.std.proofs.Common.{List, length, set, Option, Some, None, refl, sym, ap, ◌∙◌, find}
use Rattle.std.proofs.Common.{is_some}
use Rattle.std.specs.List.{range_with_len, list_any}
use Rattle.std.proofs.lemmas.Bool.{cases_eq, cases_Bool, eq-eqb, ne_eqb, false_from_ne_true}
use Rattle.hg_machine.specs.State.{orphan}
use Rattle.hg_machine.specs.Changes.{abandoned}
use Rattle.hg_agreement.specs.Holdings.{has}
use Rattle.hg_agreement.specs.Parts.{Plain, Parts, is_of, heap_at, holdings, worker_of, plain_by}
use Rattle.hg_agreement.specs.Parts.{plain_of, holder_by, holder_of, state_of, IsSorted}
use Rattle.hg_agreement.specs.LeftPut.{numbers}
use Rattle.hg_agreement.specs.Moves.{with_orphan, IsLetGo, LetGoIsAbandoned}
use Rattle.hg_agreement.proofs.ReplacedHeap.{has_found, one_has, ReplacesHeap, heap_here}
use Rattle.hg_agreement.proofs.ReplacedHeap.{heap_there, find_each, has_each, found_has, worker_each}
use Rattle.hg_agreement.proofs.ReplacedHeap.{state_rehoused}

pub none_passes : (p : ℕ → Bool) (xs : List ℕ) → ((k : ℕ) → p k ≡ false) → find p xs ≡ None
none_passes p [] e = refl
none_passes p (x ∷ xs) e = ap (λ b. cond b (Some x) (find p xs)) (e x) ∙ none_passes p xs e

-- a look-up in a pool with one more orphan
one_more : (n : ℕ) (one : Plain) (xs ys : List Plain) → one.holding.number ≡ n
    → find (is_of n) (xs ++ ys) ≡ None → find (is_of n) ((xs ++ one ∷ []) ++ ys) ≡ Some one
one_more n one [] ys is none =
    ap (λ b. cond b (Some one) (find (is_of n) ys)) (eq-eqb one.holding.number n is)
one_more n one (x ∷ xs) ys is none =
    elim (cases_Bool (x.holding.number == n)) [
      | inl t ↦ absurd
          (let bad : Some x ≡ None = sym (ap (λ b. cond b (Some x) (find (is_of n) (xs ++ ys))) t)
          ∙ none in cc)
      | inr f ↦
          ap (λ b. cond b (Some x) (find (is_of n) ((xs ++ one ∷ []) ++ ys))) f
          ∙ one_more n one xs ys is (sym (ap (λ b. cond b (Some x) (find (is_of n) (xs ++ ys))) f)
          ∙ none)
    ]

no_other : (n : ℕ) (one : Plain) (xs ys : List Plain) → (one.holding.number ≡ n → ⊥)
    → find (is_of n) ((xs ++ one ∷ []) ++ ys) ≡ find (is_of n) (xs ++ ys)
no_other n one [] ys ne =
    ap (λ b. cond b (Some one) (find (is_of n) ys)) (ne_eqb one.holding.number n ne)
no_other n one (x ∷ xs) ys ne =
    ap (λ o. cond (x.holding.number == n) (Some x) o) (no_other n one xs ys ne)

any_more : (n : ℕ) (one : Plain) (xs : List Plain) → one.holding.number ≡ n
    → list_any (is_of n) (xs ++ one ∷ []) ≡ true
any_more n one [] is = ap (λ b. b || false) (eq-eqb one.holding.number n is)
any_more n one (x ∷ xs) is =
    elim (x.holding.number == n) as (λ b. (b || list_any (is_of n) (xs ++ one ∷ [])) ≡ true) [
      | true ↦ refl
      | false ↦ any_more n one xs is
    ]

any_other : (n : ℕ) (one : Plain) (xs : List Plain) → (one.holding.number ≡ n → ⊥)
    → list_any (is_of n) (xs ++ one ∷ []) ≡ list_any (is_of n) xs
any_other n one [] ne = ap (λ b. b || false) (ne_eqb one.holding.number n ne)
any_other n one (x ∷ xs) ne = ap (λ b. (x.holding.number == n) || b) (any_other n one xs ne)

numbers_more : (one : Plain) (xs : List Plain)
    → numbers (xs ++ one ∷ []) ≡ numbers xs ++ one.holding.number ∷ []
numbers_more one [] = refl
numbers_more one (x ∷ xs) = ap (λ l. x.holding.number ∷ l) (numbers_more one xs)

module _ (parts : Parts) (w : ℕ) (heap : List Plain) (one : Plain) (sorted : IsSorted parts)
    (go : IsLetGo parts w heap one) where
  abbrev n : ℕ
  n = one.holding.number

  abbrev after : Parts
  after = with_orphan parts w heap one

  new : ReplacesHeap parts after w heap
  new = record { heaps = refl; below = go.worker_below }

  others : (segment : ℕ) → (segment ≡ n → ⊥)
      → has (holdings heap) segment ≡ has (holdings (heap_at parts w)) segment
  others segment ne = found_has heap (heap_at parts w) segment (go.others segment ne)

  -- what heaps have, and the worker of a segment, once it is let go
  pub go_has : (segment v : ℕ) → (segment ≡ n → ⊥)
      → has (holdings (heap_at after v)) segment ≡ has (holdings (heap_at parts v)) segment
  go_has segment v ne = has_each new segment (others segment ne) v

  pub go_had : has (holdings (heap_at parts w)) n ≡ true
  go_had = has_found (heap_at parts w) n ∙ ap is_some go.there

  pub go_gone : (v : ℕ) → has (holdings (heap_at after v)) n ≡ false
  go_gone v = elim (cases_eq v w) [
    | inl e ↦
        rw e (ap (λ h. has (holdings h) n) (heap_here new) ∙ has_found heap n ∙ ap is_some go.gone)
    | inr ne ↦
        ap (λ h. has (holdings h) n) (heap_there new v ne)
        ∙ false_from_ne_true _ (λ t. ne (sorted.one_heap v w n t go_had))
  ]

  pub go_worker : (segment : ℕ) → (segment ≡ n → ⊥)
      → worker_of after segment ≡ worker_of parts segment
  go_worker segment ne = worker_each new segment (others segment ne)

  pub go_none : worker_of after n ≡ None
  go_none = none_passes (λ v. has (holdings (heap_at after v)) n)
      (range_with_len 0 (length after.heaps)) go_gone

  pub go_was : worker_of parts n ≡ Some w
  go_was = one_has parts w n go.worker_below go_had (λ v t. sorted.one_heap v w n t go_had)

  by_same : (segment : ℕ) (o : Option ℕ) → (segment ≡ n → ⊥)
      → plain_by after segment o ≡ plain_by parts segment o
  by_same segment (Some v) ne = find_each new segment (go.others segment ne) v
  by_same segment None ne = no_other segment one parts.orphans parts.fresh (λ e. ne (sym e))

  pub go_plain : (segment : ℕ) → plain_of after segment ≡ plain_of parts segment
  go_plain segment = elim (cases_eq segment n) [
    | inl e ↦
        rw e (ap (plain_by after n) go_none
        ∙ one_more n one parts.orphans parts.fresh refl go.unpooled
        ∙ sym (ap (plain_by parts n) go_was ∙ go.there))
    | inr ne ↦ ap (plain_by after segment) (go_worker segment ne)
        ∙ by_same segment (worker_of parts segment) ne
  ]

  holder_other : (segment : ℕ) → (segment ≡ n → ⊥)
      → holder_of after segment ≡ holder_of parts segment
  holder_other segment ne =
      ap (λ o. holder_by o (list_any (is_of segment) (parts.orphans ++ one ∷ [])))
      (go_worker segment ne)
      ∙ ap (holder_by (worker_of parts segment))
      (any_other segment one parts.orphans (λ e. ne (sym e)))

  holder_now : holder_of after n ≡ orphan
  holder_now =
      ap (λ o. holder_by o (list_any (is_of n) (parts.orphans ++ one ∷ []))) go_none
      ∙ ap (holder_by None) (any_more n one parts.orphans refl)

  leaves : state_of after ≡ abandoned (state_of parts) n
  leaves =
      state_rehoused parts (set parts.heaps w heap) (parts.orphans ++ one ∷ []) parts.fresh n orphan
      (sorted.below w n go_had) go_plain holder_other holder_now
      ∙ ap (λ os. record (state_of parts) {
        holders = set (state_of parts).holders n orphan;
        orphans = os;
      }) (numbers_more one parts.orphans)

pub let_go_is_abandoned : LetGoIsAbandoned
let_go_is_abandoned parts worker heap one sorted go = leaves parts worker heap one sorted go
