-- Which segment a refill takes, and that the pool's part says the same.
use Rattle.std.specs.Prelude.{find, option_map}
use Rattle.std.specs.List.{list_any, range_with_len, position_or_len, AllByRecursion}
use Rattle.std.specs.Option.{option_or}
use Rattle.std.proofs.Common.{◌≡◌, ◌⊎◌, ℕ, zero, suc, ◌+◌, ◌<◌, ◌≤◌, ◌==◌, ◌&&◌, ◌||◌, Bool, true, false}
use Rattle.std.proofs.Common.{cond, List, [], ◌∷◌, length, Option, Some, None, Contains}
use Rattle.std.proofs.Common.{refl, sym, ap, subst, ◌∙◌, arith, inl, inr}
use Rattle.std.proofs.lemmas.Bool.{cases_eq, eq-eqb, ne_eqb, lt-ltb}
use Rattle.std.proofs.lemmas.List.Elements.{Contains-append_left, Contains-append_right}
use Rattle.std.proofs.lemmas.List.Folds.{find_at}
use Rattle.std.proofs.lemmas.Option.{slice_get_within}
use Rattle.hg_machine.specs.Holders.{is_number}
use Rattle.hg_machine.specs.Policy.{Policy, arena_of}
use Rattle.hg_segment.specs.Kept.{Kept}
use Rattle.hg_pool.specs.Pooled.{IsRising, Pooled, is_of_arena, next_in, numbers}
use Rattle.hg_heap.specs.Policies.{AreOf}
use Rattle.hg_heap.proofs.Founds.{Contains-get}
use Rattle.hg_roles.specs.Pooling.{next_in as next_of_part}
use Rattle.hg_run_table.specs.declared.segment.RunSegment.{RunSegment}
use Rattle.hg_run_worker.specs.AtWork.{number_in}
use Rattle.hg_run_worker.specs.Pools.{pool_part, pooled_in}

-- what a search finds is there
found_there : {X : Type 0} (p : X → Bool) (xs : List X) (x : X) → find p xs ≡ Some x → Contains xs x
found_there p xs x e = Contains-get xs (position_or_len p xs) x (sym (find_at p xs) ∙ e)

either : {X : Type 0} (o q : Option X) (x : X) → option_or o q ≡ Some x → (o ≡ Some x) ⊎ (q ≡ Some x)
either None q x e = inr e
either (Some y) q x e = inl e

pub next_there : (pool : Pooled RunSegment) (arena : ℕ) (one : Kept RunSegment)
    → next_in pool arena ≡ Some one → Contains (pooled_in pool) one
next_there pool arena one e =
    elim (either (find (is_of_arena arena) pool.orphans) (find (is_of_arena arena) pool.fresh) one e) [
      | inl l ↦
          Contains-append_left pool.orphans pool.fresh one
          (found_there (is_of_arena arena) pool.orphans one l)
      | inr r ↦
          Contains-append_right pool.orphans pool.fresh one
          (found_there (is_of_arena arena) pool.fresh one r)
    ]

-- searches for what is the same of all that is there find the same
find_same : {X : Type 0} (p q : X → Bool) (xs : List X)
    → ((x : X) → Contains xs x → p x ≡ q x) → find p xs ≡ find q xs
find_same p q [] same = refl
find_same p q (x ∷ xs) same =
    ap (λ (b : Bool). cond b (Some x) (find p xs)) (same x (0, omega arith, refl))
    ∙ ap (λ (o : Option _). cond (q x) (Some x) o)
    (find_same p q xs (λ y there. same y (Contains-append_right (x ∷ []) xs y there)))

find_numbers : (f : ℕ → Bool) (xs : List (Kept RunSegment))
    → find f (numbers number_in xs)
    ≡ option_map (λ k. number_in k.slots) (find (λ k. f (number_in k.slots)) xs)
find_numbers f [] = refl
find_numbers f (x ∷ xs) =
    elim (f (number_in x.slots))
    as (λ b.
    cond b (Some (number_in x.slots)) (find f (numbers number_in xs))
    ≡ option_map (λ k. number_in k.slots) (cond b (Some x) (find (λ k. f (number_in k.slots)) xs))) [
      | true ↦ refl
      | false ↦ find_numbers f xs
    ]

-- numbers from one on, below another
abbrev AreIn : ℕ → ℕ → List ℕ → Type 0
AreIn low high = AllByRecursion (λ n. (low ≤ n) × (n < high))

none_below : (n : ℕ) (xs : List ℕ) → AllByRecursion (λ m. n < m) xs → list_any (λ m. m == n) xs ≡ false
none_below n [] above = refl
none_below n (x ∷ xs) above =
    let lt = above.0 in
    ap (λ (b : Bool). b || list_any (λ m. m == n) xs) (ne_eqb x n (λ e. absurd (omega (arith, lt, e))))
    ∙ none_below n xs above.1

from_next : (low high : ℕ) (xs : List ℕ) → AllByRecursion (λ m. low < m) xs → AreIn low high xs
    → AreIn (low + 1) high xs
from_next low high [] above within = tt
from_next low high (x ∷ xs) above within =
    let lt = above.0 in
    let below = within.0.1 in
    ((omega (arith, lt), below), from_next low high xs above.1 within.1)

above_all : (low n : ℕ) (xs : List ℕ) → low ≤ n → AllByRecursion (λ m. n < m) xs
    → AllByRecursion (λ m. low < m) xs
above_all low n [] le above = tt
above_all low n (x ∷ xs) le above =
    let lt = above.0 in (omega (arith, le, lt), above_all low n xs le above.1)

and_false : (a b : Bool) → b ≡ false → (a && b) ≡ false
and_false true b e = e
and_false false b e = refl

and_true : (a b : Bool) → b ≡ true → (a && b) ≡ a
and_true true b e = e
and_true false b e = refl

-- the first of a range that stands among rising numbers and passes is the first of these that does
find_rising : (p q : ℕ → Bool) (xs : List ℕ) (a n : ℕ) → IsRising xs → AreIn a (a + n) xs
    → ((k : ℕ) → a ≤ k → k < a + n → p k ≡ (q k && list_any (λ m. m == k) xs))
    → find p (range_with_len a n) ≡ find q xs
find_rising p q [] a zero rising within same = refl
find_rising p q (x ∷ xs) a zero rising within same =
    let low = within.0.0 in
    let high = within.0.1 in
    absurd (omega (arith, low, high))
find_rising p q [] a (suc n) rising within same =
    ap (λ (b : Bool). cond b (Some a) (find p (range_with_len (a + 1) n)))
    (same a (omega arith) (omega arith) ∙ and_false (q a) false refl)
    ∙ find_rising p q [] (a + 1) n tt tt (λ k low high. same k (omega (arith, low)) (omega (arith, high)))
find_rising p q (x ∷ xs) a (suc n) rising within same =
    let high : a + suc n ≡ a + 1 + n = omega arith in
    elim (cases_eq x a) [
      | inl e ↦
          ap (λ (b : Bool). cond b (Some a) (find p (range_with_len (a + 1) n)))
          (same a (omega arith) (omega arith)
          ∙ and_true (q a) ((x == a) || list_any (λ m. m == a) xs)
          (ap (λ (b : Bool). b || list_any (λ m. m == a) xs) (eq-eqb x a e)))
          ∙ ap (λ (o : Option ℕ). cond (q a) (Some a) o)
          (find_rising p q xs (a + 1) n rising.1
          (subst (λ h. AreIn (a + 1) h xs) high
          (from_next a (a + suc n) xs
          (subst (λ m. AllByRecursion (λ k. m < k) xs) e rising.0) within.1))
          (λ k low below.
          same k (omega (arith, low)) (omega (arith, below))
          ∙ ap (λ (b : Bool). q k && (b || list_any (λ m. m == k) xs))
          (ne_eqb x k (λ f. absurd (omega (arith, e, f, low))))))
          ∙ sym (ap (λ m. cond (q m) (Some m) (find q xs)) e)
      | inr ne ↦
          let low = within.0.0 in
          let far : a < x = omega (arith, low, ne) in
          let more : AllByRecursion (λ m. a < m) xs = above_all a x xs (omega (arith, far)) rising.0 in
          ap (λ (b : Bool). cond b (Some a) (find p (range_with_len (a + 1) n)))
          (same a (omega arith) (omega arith)
          ∙ and_false (q a) (list_any (λ m. m == a) (x ∷ xs)) (none_below a (x ∷ xs) (far, more)))
          ∙ find_rising p q (x ∷ xs) (a + 1) n rising
          (subst (λ h. AreIn (a + 1) h (x ∷ xs)) high
          (from_next a (a + suc n) (x ∷ xs) (far, more) within))
          (λ k least below. same k (omega (arith, least)) (omega (arith, below)))
    ]

either_number : (a b : Option (Kept RunSegment))
    → option_or (option_map (λ k. number_in k.slots) a) (option_map (λ k. number_in k.slots) b)
    ≡ option_map (λ k. number_in k.slots) (option_or a b)
either_number None b = refl
either_number (Some x) b = refl

module _ (policy : Policy) (pool : Pooled RunSegment) (arena : ℕ)
    (of : AreOf number_in policy (pooled_in pool)) (rising : IsRising (numbers number_in pool.fresh)) where
  abbrev is_for : ℕ → Bool
  is_for segment = is_number arena (arena_of policy segment)

  -- all are segments of the policy
  pub inside : (k : Kept RunSegment) → Contains (pooled_in pool) k
      → number_in k.slots < length policy.segments
  inside k there = slice_get_within policy.segments (number_in k.slots) k.arena (of.arena k there)

  all_inside : (xs : List (Kept RunSegment))
      → ((k : Kept RunSegment) → Contains xs k → Contains (pooled_in pool) k)
      → AreIn 0 (0 + length policy.segments) (numbers number_in xs)
  all_inside [] part = tt
  all_inside (x ∷ xs) part =
      let below = inside x (part x (0, omega arith, refl)) in (
        (omega arith, omega (arith, below)),
        all_inside xs (λ k there. part k (Contains-append_right (x ∷ []) xs k there)),
      )

  of_arena : (xs : List (Kept RunSegment))
      → ((k : Kept RunSegment) → Contains xs k → Contains (pooled_in pool) k)
      → find is_for (numbers number_in xs)
      ≡ option_map (λ k. number_in k.slots) (find (is_of_arena arena) xs)
  of_arena xs part =
      find_numbers is_for xs
      ∙ ap (option_map (λ k. number_in k.slots))
      (find_same (λ k. is_for (number_in k.slots)) (is_of_arena arena) xs
      (λ k there. ap (is_number arena) (of.arena k (part k there))))

  pub next_is :
      next_of_part policy arena (pool_part policy pool)
      ≡ option_map (λ k. number_in k.slots) (next_in pool arena)
  next_is =
      ap
      (λ (o : Option ℕ). option_or (find is_for (numbers number_in pool.orphans)) o)
      (find_rising (λ segment. is_for segment && (pool_part policy pool).fresh segment) is_for
      (numbers number_in pool.fresh) 0 (length policy.segments) rising
      (all_inside pool.fresh (λ k there. Contains-append_right pool.orphans pool.fresh k there))
      (λ k low below.
      ap
      (λ (b : Bool). is_for k && cond b (list_any (λ n. n == k) (numbers number_in pool.fresh)) true)
      (lt-ltb k (length policy.segments) (omega (arith, below))))
      ∙ of_arena pool.fresh (λ k there. Contains-append_right pool.orphans pool.fresh k there))
      ∙ ap
      (λ (o : Option ℕ).
      option_or o (option_map (λ k. number_in k.slots) (find (is_of_arena arena) pool.fresh)))
      (of_arena pool.orphans (λ k there. Contains-append_left pool.orphans pool.fresh k there))
      ∙ either_number (find (is_of_arena arena) pool.orphans) (find (is_of_arena arena) pool.fresh)
