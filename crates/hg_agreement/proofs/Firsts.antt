-- What a pool has, and which segment of it a refill takes.
use Rattle.std.proofs.Common.{zero, suc, ◌≡◌, ℕ, ◌+◌, ◌==◌, ◌<◌, ◌≤◌, inl, inr, Bool, true, false}
use Rattle.std.proofs.Common.{cond, ◌&&◌, ◌||◌, ◌∷◌, [], ◌++◌, List, length, Option, Some, None}
use Rattle.std.proofs.Common.{refl, sym, ap, subst, ◌∙◌, arith, find, is_none, nat_lt, option_map}
use Rattle.std.proofs.Common.{count_by}
use Rattle.std.specs.Option.{option_or}
use Rattle.std.specs.List.{range_with_len, list_any}
use Rattle.std.proofs.lemmas.Bool.{cases_eq, cases_lt, cases_Bool, eq-eqb, ne_eqb, true≢false}
use Rattle.std.proofs.lemmas.Bool.{lt-ltb, le-ltb, or_right}
use Rattle.std.proofs.lemmas.List.FromFn.{length-map-range_with_len, get_or-map-range_with_len}
use Rattle.std.proofs.lemmas.List.Folds.{find-append}
use Rattle.std.proofs.lemmas.List.Sums.{sum_by-append}
use Rattle.std.proofs.lemmas.Option.{none-some}
use Rattle.hg_place.specs.Words.{bit_of}
use Rattle.hg_machine.specs.State.{fresh, holder_at}
use Rattle.hg_machine.specs.Holders.{is_fresh, is_in_arena}
use Rattle.hg_agreement.specs.Parts.{Plain, Parts, is_of, worker_of, holder_by, holder_of, state_of}
use Rattle.hg_agreement.specs.LeftPut.{numbers}
use Rattle.hg_agreement.specs.Pool.{IsRising, IsPooled, is_for, NextIsFirst}
use Rattle.hg_agreement.proofs.Lefts.{any_number}

one_bit : (b : Bool) → 0 + cond b 1 0 ≡ bit_of b
one_bit true = refl
one_bit false = refl

pub count_cons : {X : Type 0} (p : X → Bool) (x : X) (xs : List X)
    → count_by p (x ∷ xs) ≡ bit_of (p x) + count_by p xs
count_cons {X} p x xs =
    sum_by-append (λ y. cond (p y) 1 0) (x ∷ []) xs ∙ ap (λ k. k + count_by p xs) (one_bit (p x))

pub count_append : {X : Type 0} (p : X → Bool) (xs ys : List X)
    → count_by p (xs ++ ys) ≡ count_by p xs + count_by p ys
count_append {X} p xs ys = sum_by-append (λ y. cond (p y) 1 0) xs ys

pub none_counted : {X : Type 0} (p : X → Bool) (xs : List X) → list_any p xs ≡ false
    → count_by p xs ≡ 0
none_counted {X} p [] e = refl
none_counted {X} p (x ∷ xs) e = elim (cases_Bool (p x)) [
  | inl t ↦ absurd (true≢false (sym (ap (λ b. b || list_any p xs) t) ∙ e))
  | inr f ↦
      let c = count_cons p x xs ∙ ap (λ b. bit_of b + count_by p xs) f in
      let rest = none_counted p xs (sym (ap (λ b. b || list_any p xs) f) ∙ e) in
      omega arith
]

pub some_counted : {X : Type 0} (p : X → Bool) (xs : List X) → list_any p xs ≡ true
    → 1 ≤ count_by p xs
some_counted {X} p [] e = absurd (true≢false (sym e))
some_counted {X} p (x ∷ xs) e = elim (cases_Bool (p x)) [
  | inl t ↦ let c = count_cons p x xs ∙ ap (λ b. bit_of b + count_by p xs) t in omega arith
  | inr f ↦
      let c = count_cons p x xs ∙ ap (λ b. bit_of b + count_by p xs) f in
      let rest = some_counted p xs (sym (ap (λ b. b || list_any p xs) f) ∙ e) in
      omega arith
]

pub any_found : {X : Type 0} (p : X → Bool) (xs : List X) (x : X) → find p xs ≡ Some x
    → list_any p xs ≡ true
any_found {X} p [] x e = absurd (none-some x e)
any_found {X} p (y ∷ ys) x e = elim (cases_Bool (p y)) [
  | inl t ↦ ap (λ b. b || list_any p ys) t
  | inr f ↦ ap (λ b. b || list_any p ys) f
      ∙ any_found p ys x (sym (ap (λ b. cond b (Some y) (find p ys)) f) ∙ e)
]

bit_second : (b c : Bool) → c ≡ false → bit_of (b && c) ≡ 0
bit_second true c e = ap bit_of e
bit_second false c e = refl

-- one that stands in the pool
pub pool_inside : (parts : Parts) (segment : ℕ) → IsPooled parts
    → 1 ≤ count_by (is_of segment) (parts.orphans ++ parts.fresh)
    → segment < length parts.policy.segments
pool_inside parts segment pooled some =
    elim (cases_lt segment (length parts.policy.segments)) [
      | inl below ↦ below
      | inr past ↦
          let none = pooled.once segment ∙ bit_second (is_none (worker_of parts segment))
          (nat_lt segment (length parts.policy.segments))
          (le-ltb segment (length parts.policy.segments) past) in
          absurd (omega arith)
    ]

unheld_by : (o : Option ℕ) (c : Bool) → 1 ≤ bit_of (is_none o && c) → o ≡ None
unheld_by None c e = refl
unheld_by (Some w) c e = absurd (omega arith)

pub pool_unheld : (parts : Parts) (segment : ℕ) → IsPooled parts
    → 1 ≤ count_by (is_of segment) (parts.orphans ++ parts.fresh) → worker_of parts segment ≡ None
pool_unheld parts segment pooled some =
    unheld_by (worker_of parts segment) (nat_lt segment (length parts.policy.segments))
    (subst (λ k. 1 ≤ k) (pooled.once segment) some)

module _ (parts : Parts) (segment : ℕ) (pooled : IsPooled parts)
    (below : segment < length parts.policy.segments) where
  total : count_by (is_of segment) parts.orphans + count_by (is_of segment) parts.fresh ≡ bit_of
      (is_none (worker_of parts segment) && nat_lt segment (length parts.policy.segments))
  total = sym (count_append (is_of segment) parts.orphans parts.fresh) ∙ pooled.once segment

  fresh_by : (o : Option ℕ) → worker_of parts segment ≡ o → list_any (is_of segment) parts.fresh
      ≡ is_fresh (holder_by o (list_any (is_of segment) parts.orphans))
  fresh_by (Some w) is =
      let none = total
      ∙ ap (λ o. bit_of (is_none o && nat_lt segment (length parts.policy.segments))) is in
      elim (cases_Bool (list_any (is_of segment) parts.fresh)) [
        | inl t ↦ let some = some_counted (is_of segment) parts.fresh t in absurd (omega arith)
        | inr f ↦ f
      ]
  fresh_by None is =
      let one = total
      ∙ ap (λ o. bit_of (is_none o && nat_lt segment (length parts.policy.segments))) is
      ∙ ap bit_of (lt-ltb segment (length parts.policy.segments) below) in
      elim (cases_Bool (list_any (is_of segment) parts.orphans)) [
        | inl t ↦
            let some = some_counted (is_of segment) parts.orphans t in
            elim (cases_Bool (list_any (is_of segment) parts.fresh)) [
              | inl too ↦ let more =
                  some_counted (is_of segment) parts.fresh too in absurd (omega arith)
              | inr f ↦ f ∙ sym (ap (λ b. is_fresh (holder_by None b)) t)
            ]
        | inr f ↦
            let none = none_counted (is_of segment) parts.orphans f in
            elim (cases_Bool (list_any (is_of segment) parts.fresh)) [
              | inl t ↦ t ∙ sym (ap (λ b. is_fresh (holder_by None b)) f)
              | inr nowhere ↦ let less =
                  none_counted (is_of segment) parts.fresh nowhere in absurd (omega arith)
            ]
      ]

  -- the fresh ones of the state are those of the pool
  pub fresh_are : list_any (is_of segment) parts.fresh ≡ is_fresh (holder_of parts segment)
  fresh_are = fresh_by (worker_of parts segment) refl

rising_above : (low k : ℕ) (xs : List ℕ) → IsRising low xs → k < low
    → list_any (λ x. x == k) xs ≡ false
rising_above low k [] r h = refl
rising_above low k (x ∷ xs) r h =
    let a = r.0 in
    ap (λ b. b || list_any (λ y. y == k) xs) (ne_eqb x k (λ e. omega arith))
    ∙ rising_above (x + 1) k xs r.1 (omega arith)

-- the first of a range that passes is the first of rising numbers
find_rising : (p q : ℕ → Bool) (xs : List ℕ) (a n : ℕ) → IsRising a xs
    → ((k : ℕ) → list_any (λ x. x == k) xs ≡ true → k < a + n)
    → ((k : ℕ) → a ≤ k → k < a + n → p k ≡ (list_any (λ x. x == k) xs && q k))
    → find p (range_with_len a n) ≡ find q xs
find_rising p q [] a zero r below e = refl
find_rising p q (x ∷ xs) a zero r below e =
    let low = r.0 in
    let high = below x (ap (λ b. b || list_any (λ y. y == x) xs) (eq-eqb x x refl)) in
    absurd (omega arith)
find_rising p q [] a (suc n) r below e =
    ap (λ b. cond b (Some a) (find p (range_with_len (a + 1) n))) (e a (omega arith) (omega arith))
    ∙ find_rising p q [] (a + 1) n tt (λ k t. absurd (true≢false (sym t)))
    (λ k low high. e k (omega arith) (omega arith))
find_rising p q (x ∷ xs) a (suc n) r below e =
    elim (cases_eq x a) [
      | inl same ↦
          let rest = find_rising p q xs (a + 1) n (subst (λ y. IsRising (y + 1) xs) same r.1)
          (λ k t. let b = below k (or_right (x == k) _ t) in omega arith)
          (λ k low high. e k (omega arith) (omega arith)
          ∙ ap (λ b. (b || list_any (λ y. y == k) xs) && q k) (ne_eqb x k (λ f. omega arith))) in
          ap (λ b. cond b (Some a) (find p (range_with_len (a + 1) n)))
          (e a (omega arith) (omega arith)
          ∙ ap (λ b. (b || list_any (λ y. y == a) xs) && q a) (eq-eqb x a same))
          ∙ ap (λ o. cond (q a) (Some a) o) rest
          ∙ sym (ap (λ y. cond (q y) (Some y) (find q xs)) same)
      | inr ne ↦
          let low = r.0 in
          ap (λ b. cond b (Some a) (find p (range_with_len (a + 1) n)))
          (e a (omega arith) (omega arith)
          ∙ ap (λ b. (b || list_any (λ y. y == a) xs) && q a) (ne_eqb x a ne)
          ∙ ap (λ b. b && q a) (rising_above (x + 1) a xs r.1 (omega arith)))
          ∙ find_rising p q (x ∷ xs) (a + 1) n (omega arith, r.1)
          (λ k t. let b = below k t in omega arith)
          (λ k least high. e k (omega arith) (omega arith))
    ]

find_numbers : (f : ℕ → Bool) (xs : List Plain) → find f (numbers xs) ≡ option_map
    (λ one. one.holding.number) (find (λ one. f one.holding.number) xs)
find_numbers f [] = refl
find_numbers f (x ∷ xs) =
    elim (f x.holding.number) as (λ b. cond b (Some x.holding.number) (find f (numbers xs))
    ≡ option_map (λ one. one.holding.number)
    (cond b (Some x) (find (λ one. f one.holding.number) xs))) [
      | true ↦ refl
      | false ↦ find_numbers f xs
    ]

either : (a b : Option Plain) → option_or (option_map (λ one. one.holding.number) a)
    (option_map (λ one. one.holding.number) b) ≡ option_map (λ one. one.holding.number)
    (option_or a b)
either None b = refl
either (Some x) b = refl

commuted : (a b : Bool) → (a && b) ≡ (b && a)
commuted true true = refl
commuted true false = refl
commuted false true = refl
commuted false false = refl

pub next_is_first : NextIsFirst
next_is_first parts arena pooled =
    let s = state_of parts in
    let segments = length parts.policy.segments in
    let p : ℕ → Bool = λ segment. is_in_arena s arena segment && is_fresh (holder_at s segment) in
    let long = length-map-range_with_len (holder_of parts) 0 segments in
    let inside : (k : ℕ) → list_any (λ x. x == k) (numbers parts.fresh) ≡ true → k < 0 + segments =
    λ k t.
    (let some = some_counted (is_of k) parts.fresh (any_number parts.fresh k ∙ t) in
    let c = count_append (is_of k) parts.orphans parts.fresh in
    let b = pool_inside parts k pooled (omega arith) in
    omega arith) in
    let same : (k : ℕ) → 0 ≤ k → k < 0 + segments
    → p k ≡ (list_any (λ x. x == k) (numbers parts.fresh) && is_in_arena s arena k) =
    λ k low high.
    (let b : k < segments = omega arith in
    commuted (is_in_arena s arena k) (is_fresh (holder_at s k))
    ∙ ap (λ h. is_fresh h && is_in_arena s arena k)
    (get_or-map-range_with_len (holder_of parts) 0 segments k k fresh b (omega arith))
    ∙ ap (λ x. x && is_in_arena s arena k) (sym (fresh_are parts k pooled b)
    ∙ any_number parts.fresh k)) in
    ap (λ l. option_or (find (is_in_arena s arena) s.orphans) (find p (range_with_len 0 l))) long
    ∙ ap (λ o. option_or (find (is_in_arena s arena) s.orphans) o)
    (find_rising p (is_in_arena s arena) (numbers parts.fresh) 0 segments pooled.rising inside same
    ∙ find_numbers (is_in_arena s arena) parts.fresh)
    ∙ ap (λ o. option_or o
    (option_map (λ one. one.holding.number) (find (is_for parts.policy arena) parts.fresh)))
    (find_numbers (is_in_arena s arena) parts.orphans)
    ∙ either (find (is_for parts.policy arena) parts.orphans)
    (find (is_for parts.policy arena) parts.fresh)
    ∙ sym (ap (option_map (λ one. one.holding.number))
    (find-append (is_for parts.policy arena) parts.orphans parts.fresh))
