-- What stands in lists, and what is found there.
use Rattle.std.proofs.Common.{◌≡◌, ◌≢◌, ◌⊎◌, ℕ, ◌<◌, Bool, true, not, cond, List, []}
use Rattle.std.proofs.Common.{◌∷◌, ◌++◌, length, filter, find, Option, Some, None, refl, sym, ap, subst}
use Rattle.std.proofs.Common.{◌∙◌, arith, inl, inr, ⊎_elim, ◌+◌, slice_index_or}
use Rattle.std.specs.Prelude.{Contains}
use Rattle.std.specs.Option.{option_map}
use Rattle.std.proofs.lemmas.Bool.{cases_Bool, eqb-true, eq-eqb, ne_eqb, true≢false}
use Rattle.std.proofs.lemmas.List.Elements.{Contains-append_cases, Contains-append_left}
use Rattle.std.proofs.lemmas.List.Elements.{Contains-append_right, filter-append}
use Rattle.std.proofs.lemmas.Option.{same_Some, none-some}
use Rattle.hg_lists.specs.Inserts.{Inserts}
use Rattle.hg_lists.specs.Repeats.{Lacks}
use Rattle.hg_segment.specs.Kept.{Kept}
use Rattle.hg_pool.specs.Pooled.{Pooled, IsPooled, is_numbered, numbers, without_number}
use Rattle.hg_pool.specs.Pooled.{without_segment}

-- what is mapped to some is some
pub mapped_some : {X Y : Type 0} (f : X → Y) (o : Option X) (y : Y) → option_map f o ≡ Some y
    → (x : X) × (o ≡ Some x) × (f x ≡ y)
mapped_some f None y e = absurd (none-some y e)
mapped_some f (Some x) y e = (x, refl, same_Some (f x) y e)

pub mapped_none : {X Y : Type 0} (f : X → Y) (o : Option X) → option_map f o ≡ None → o ≡ None
mapped_none f None e = refl
mapped_none f (Some x) e = absurd (none-some (f x) (sym e))

module _ {X : Type 0} where
  only : (y x : X) → Contains (y ∷ []) x → y ≡ x
  only y x c =
      let z : c.0 ≡ 0 = (let lt = c.1 in omega (arith, lt)) in
      ap (λ n. slice_index_or (y ∷ []) n x) (sym z) ∙ c.2

  pub in_cons : (y x : X) (ys : List X) → Contains (y ∷ ys) x → (y ≡ x) ⊎ Contains ys x
  in_cons y x ys c =
      ⊎_elim (λ (l : Contains (y ∷ []) x). inl (only y x l)) (λ (r : Contains ys x). inr r)
      (Contains-append_cases (y ∷ []) ys x c)

  pub at_front : (x : X) (xs : List X) → Contains (x ∷ xs) x
  at_front x xs = (0, omega arith, refl)

  pub behind : (y x : X) (ys : List X) → Contains ys x → Contains (y ∷ ys) x
  behind y x ys c = Contains-append_right (y ∷ []) ys x c

  pub in_none : (x : X) → Contains [] x → ⊥
  in_none x c = (let lt = c.1 in omega (arith, lt))

  module _ (p : X → Bool) where
    -- where one passes, one is found
    pub finds : (xs : List X) (x : X) → Contains xs x → p x ≡ true → (y : X) × (find p xs ≡ Some y)
    finds [] x c t = absurd (in_none x c)
    finds (y ∷ ys) x c t = elim (cases_Bool (p y)) [
      | inl hit ↦ (y, ap (λ b. cond b (Some y) (find p ys)) hit)
      | inr miss ↦ (
          let r = finds ys x (⊎_elim (λ (e : y ≡ x). absurd (true≢false (sym t ∙ ap p (sym e) ∙ miss)))
          (λ (r : Contains ys x). r) (in_cons y x ys c)) t in
          (r.0, ap (λ b. cond b (Some y) (find p ys)) miss ∙ r.1))
    ]

    -- what is found is there, and passes
    pub found : (xs : List X) (x : X) → find p xs ≡ Some x → Contains xs x × (p x ≡ true)
    found [] x e = absurd (none-some x e)
    found (y ∷ ys) x e = elim (cases_Bool (p y)) as (λ _. Contains (y ∷ ys) x × (p x ≡ true)) [
      | inl hit ↦ (
          let same : y ≡ x = same_Some y x (sym (ap (λ b. cond b (Some y) (find p ys)) hit) ∙ e) in
          (subst (λ z. Contains (y ∷ ys) z) same (at_front y ys), ap p (sym same) ∙ hit))
      | inr miss ↦ (
          let r = found ys x (sym (ap (λ b. cond b (Some y) (find p ys)) miss) ∙ e) in
          (behind y x ys r.0, r.1))
    ]

    -- what a filter leaves
    pub filtered : (xs : List X) (x : X) → Contains xs x → p x ≡ true → Contains (filter p xs) x
    filtered [] x c t = absurd (in_none x c)
    filtered (y ∷ ys) x c t = elim (cases_Bool (p y)) as (λ _. Contains (filter p (y ∷ ys)) x) [
      | inl hit ↦ subst (λ b. Contains (cond b (y ∷ filter p ys) (filter p ys)) x) (sym hit)
          (⊎_elim
          (λ (e : y ≡ x). subst (λ z. Contains (y ∷ filter p ys) z) e (at_front y (filter p ys)))
          (λ (r : Contains ys x). behind y x (filter p ys) (filtered ys x r t))
          (in_cons y x ys c))
      | inr miss ↦ subst (λ b. Contains (cond b (y ∷ filter p ys) (filter p ys)) x) (sym miss)
          (⊎_elim
          (λ (e : y ≡ x). absurd (true≢false (sym t ∙ ap p (sym e) ∙ miss)))
          (λ (r : Contains ys x). filtered ys x r t)
          (in_cons y x ys c))
    ]

    pub passes : (xs : List X) (x : X) → Contains (filter p xs) x → p x ≡ true
    passes [] x c = absurd (in_none x c)
    passes (y ∷ ys) x c = elim (cases_Bool (p y)) as (λ _. p x ≡ true) [
      | inl hit ↦ ⊎_elim (λ (e : y ≡ x). ap p (sym e) ∙ hit)
          (λ (r : Contains (filter p ys) x). passes ys x r)
          (in_cons y x (filter p ys)
          (subst (λ b. Contains (cond b (y ∷ filter p ys) (filter p ys)) x) hit c))
      | inr miss ↦ passes ys x
          (subst (λ b. Contains (cond b (y ∷ filter p ys) (filter p ys)) x) miss c)
    ]

    pub unfiltered : (xs : List X) (x : X) → Contains (filter p xs) x → Contains xs x
    unfiltered [] x c = c
    unfiltered (y ∷ ys) x c = elim (cases_Bool (p y)) as (λ _. Contains (y ∷ ys) x) [
      | inl hit ↦ ⊎_elim (λ (e : y ≡ x). subst (λ z. Contains (y ∷ ys) z) e (at_front y ys))
          (λ (r : Contains (filter p ys) x). behind y x ys (unfiltered ys x r))
          (in_cons y x (filter p ys)
          (subst (λ b. Contains (cond b (y ∷ filter p ys) (filter p ys)) x) hit c))
      | inr miss ↦ behind y x ys (unfiltered ys x
          (subst (λ b. Contains (cond b (y ∷ filter p ys) (filter p ys)) x) miss c))
    ]

    -- a filter leaves no more than there were
    pub fewer : (xs : List X) → (n : ℕ) × (n + length (filter p xs) ≡ length xs)
    fewer [] = (0, refl)
    fewer (y ∷ ys) = elim (cases_Bool (p y))
        as (λ _. (n : ℕ) × (n + length (filter p (y ∷ ys)) ≡ length (y ∷ ys))) [
          | inl hit ↦ (
              let r = fewer ys in
              let same = ap (λ b. length (cond b (y ∷ filter p ys) (filter p ys))) hit in
              (r.0, omega (arith, r.1, same)))
          | inr miss ↦ (
              let r = fewer ys in
              let same = ap (λ b. length (cond b (y ∷ filter p ys) (filter p ys))) miss in
              (r.0 + 1, omega (arith, r.1, same)))
        ]

  -- one more stands among the others
  pub in_inserted : (x : X) (old new : List X) → Inserts x old new → Contains new x
  in_inserted x old new put =
      subst (λ xs. Contains xs x) (sym put.3)
      (Contains-append_right put.0 (x ∷ put.1) x (at_front x put.1))

  pub still_inserted : (x y : X) (old new : List X) → Inserts x old new → Contains old y
      → Contains new y
  still_inserted x y old new put c =
      subst (λ xs. Contains xs y) (sym put.3)
      (⊎_elim (λ (l : Contains put.0 y). Contains-append_left put.0 (x ∷ put.1) y l)
      (λ (r : Contains put.1 y). Contains-append_right put.0 (x ∷ put.1) y (behind x y put.1 r))
      (Contains-append_cases put.0 put.1 y (subst (λ xs. Contains xs y) put.2 c)))

  pub inserted : (x y : X) (old new : List X) → Inserts x old new → Contains new y
      → (x ≡ y) ⊎ Contains old y
  inserted x y old new put c =
      let back : Contains (put.0 ++ put.1) y → Contains old y =
      λ d. subst (λ xs. Contains xs y) (sym put.2) d in
      ⊎_elim (λ (l : Contains put.0 y). inr (back (Contains-append_left put.0 put.1 y l)))
      (λ (r : Contains (x ∷ put.1) y).
      ⊎_elim (λ (e : x ≡ y). inl e)
      (λ (q : Contains put.1 y). inr (back (Contains-append_right put.0 put.1 y q)))
      (in_cons x y put.1 r))
      (Contains-append_cases put.0 (x ∷ put.1) y (subst (λ xs. Contains xs y) put.3 c))

module _ {S : Type 0} (number : S → ℕ) where
  abbrev pub all_in : Pooled S → List (Kept S)
  all_in pool = pool.orphans ++ pool.fresh

  -- what stands in a pool is found there by its number
  pub pooled : (pool : Pooled S) (one : Kept S) (n : ℕ) → Contains (all_in pool) one
      → number one.slots ≡ n → IsPooled number pool n
  pooled pool one n c is =
      finds (is_numbered number n) (all_in pool) one c (eq-eqb (number one.slots) n is)

  pub standing : (pool : Pooled S) (n : ℕ) (there : IsPooled number pool n)
      → Contains (all_in pool) there.0 × (number there.0.slots ≡ n)
  standing pool n there =
      let f = found (is_numbered number n) (all_in pool) there.0 there.1 in
      (f.0, eqb-true (number there.0.slots) n f.1)

  -- a pool without the segment of a number
  all_without : (pool : Pooled S) (n : ℕ)
      → all_in (without_segment number pool n) ≡ without_number number n (all_in pool)
  all_without pool n =
      sym (filter-append (λ one. not (is_numbered number n one)) pool.orphans pool.fresh)

  pub was_there : (pool : Pooled S) (n : ℕ) (one : Kept S)
      → Contains (all_in (without_segment number pool n)) one
      → Contains (all_in pool) one × (number one.slots ≢ n)
  was_there pool n one c =
      let p : Kept S → Bool = λ k. not (is_numbered number n k) in
      let d = subst (λ ks. Contains ks one) (all_without pool n) c in
      let other : p one ≡ true = passes p (all_in pool) one d in (
        unfiltered p (all_in pool) one d,
        λ e. true≢false
            (sym other ∙ ap not (eq-eqb (number one.slots) n e)),
      )

  pub stays_there : (pool : Pooled S) (n : ℕ) (one : Kept S) → Contains (all_in pool) one
      → number one.slots ≢ n → Contains (all_in (without_segment number pool n)) one
  stays_there pool n one c other =
      let p : Kept S → Bool = λ k. not (is_numbered number n k) in
      subst (λ ks. Contains ks one) (sym (all_without pool n))
      (filtered p (all_in pool) one c (ap not (ne_eqb (number one.slots) n other)))

  -- of which one stood first, so that there is one less at least
  pub one_less : (pool : Pooled S) (n : ℕ) (one : Kept S) (ks : List (Kept S))
      → all_in pool ≡ one ∷ ks → number one.slots ≡ n
      → length (all_in (without_segment number pool n)) < length (all_in pool)
  one_less pool n one ks is numbered =
      let p : Kept S → Bool = λ k. not (is_numbered number n k) in
      let gone : without_number number n (one ∷ ks) ≡ without_number number n ks =
      ap (λ b. cond b (one ∷ filter p ks) (filter p ks))
      (ap not (eq-eqb (number one.slots) n numbered)) in
      let few = fewer p ks in
      omega (
        arith,
        ap length (all_without pool n ∙ ap (without_number number n) is ∙ gone),
        ap length is,
        few.1,
      )

  -- and where no number stands twice nothing else of its kind is gone
  pub without_lacks : (ks : List (Kept S)) (n : ℕ) → Lacks n (numbers number ks)
      → without_number number n ks ≡ ks
  without_lacks [] n lacks = refl
  without_lacks (k ∷ ks) n lacks =
      ap (λ b. cond (not b) (k ∷ without_number number n ks) (without_number number n ks))
      (ne_eqb (number k.slots) n (λ e. lacks.0 (sym e)))
      ∙ ap (λ xs. k ∷ xs) (without_lacks ks n lacks.1)
