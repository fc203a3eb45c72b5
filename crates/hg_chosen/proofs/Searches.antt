-- Searches in rising numbers.
use Rattle.std.proofs.Common.{◌≡◌, ℕ, zero, suc, ◌+◌, ◌<◌, ◌≤◌, inl, inr, Bool, true, false, cond}
use Rattle.std.proofs.Common.{◌∷◌, [], List, Some, None, refl, sym, ap, ◌∙◌, arith, find, filter}
use Rattle.std.proofs.Common.{slice_get}
use Rattle.std.specs.List.{range_with_len}
use Rattle.std.proofs.lemmas.Bool.{cases_Bool, cases_eq}

-- the least number from low on and below high that passes
pub record IsFirst (p : ℕ → Bool) (low high x : ℕ) : Type 0 where
  pub from : low ≤ x
  pub below : x < high
  pub passes : p x ≡ true
  pub least : (q : ℕ) → low ≤ q → q < x → p q ≡ false

pub find_first : (p : ℕ → Bool) (low count x : ℕ) → find p (range_with_len low count) ≡ Some x
    → IsFirst p low (low + count) x
find_first p low zero x e = absurd (cc)
find_first p low (suc n) x e = elim (cases_Bool (p low)) [
  | inl t ↦
      let s : Some low ≡ Some x =
      sym (ap (λ (b : Bool). cond b (Some low) (find p (range_with_len (low + 1) n))) t) ∙ e in
      let same : low ≡ x = cc in
      record {
        from = omega (arith, same);
        below = omega (arith, same);
        passes = ap p (sym same) ∙ t;
        least = λ q a b. absurd (omega (arith, same, a, b));
      }
  | inr f ↦
      let r = find_first p (low + 1) n x (sym (ap
      (λ (b : Bool). cond b (Some low) (find p (range_with_len (low + 1) n))) f) ∙ e) in
      record {
        from = let a = r.from in omega (arith, a);
        below = let a = r.below in omega (arith, a);
        passes = r.passes;
        least = λ q a b. elim (cases_eq q low) [
          | inl same ↦ ap p same ∙ f
          | inr ne ↦ r.least q (omega (arith, a, ne)) b
        ];
      }
]

pub find_none : (p : ℕ → Bool) (low count : ℕ) → ((q : ℕ) → low ≤ q → q < low + count → p q ≡ false)
    → find p (range_with_len low count) ≡ None
find_none p low zero none = refl
find_none p low (suc n) none =
    ap (λ (b : Bool). cond b (Some low) (find p (range_with_len (low + 1) n)))
    (none low (omega arith) (omega arith))
    ∙ find_none p (low + 1) n (λ q a b. none q (omega (arith, a)) (omega (arith, b)))

pub find_nothing : (p : ℕ → Bool) (low count : ℕ) → find p (range_with_len low count) ≡ None
    → (q : ℕ) → low ≤ q → q < low + count → p q ≡ false
find_nothing p low zero e q a b = absurd (omega (arith, a, b))
find_nothing p low (suc n) e q a b = elim (cases_Bool (p low)) [
  | inl t ↦ absurd (let s : Some low
      ≡ None =
      sym (ap (λ (c : Bool). cond c (Some low) (find p (range_with_len (low + 1) n))) t) ∙ e in cc)
  | inr f ↦ elim (cases_eq q low) [
    | inl same ↦ ap p same ∙ f
    | inr ne ↦ find_nothing p (low + 1) n (sym
        (ap (λ (c : Bool). cond c (Some low) (find p (range_with_len (low + 1) n))) f) ∙ e) q
        (omega (arith, a, ne)) (omega (arith, b))
  ]
]

pub find_is : (p : ℕ → Bool) (low count x : ℕ) → IsFirst p low (low + count) x
    → find p (range_with_len low count) ≡ Some x
find_is p low zero x first =
    absurd (let a = first.from in let b = first.below in omega (arith, a, b))
find_is p low (suc n) x first = elim (cases_eq x low) [
  | inl same ↦
      ap (λ (b : Bool). cond b (Some low) (find p (range_with_len (low + 1) n)))
      (ap p (sym same) ∙ first.passes) ∙ ap Some (sym same)
  | inr ne ↦
      let a = first.from in
      let b = first.below in
      ap (λ (c : Bool). cond c (Some low) (find p (range_with_len (low + 1) n)))
      (first.least low (omega arith) (omega (arith, a, ne)))
      ∙ find_is p (low + 1) n x (record {
        from = omega (arith, a, ne);
        below = omega (arith, b);
        passes = first.passes;
        least = λ q c d. first.least q (omega (arith, c)) d;
      })
]

-- what a search finds is the first of those that pass
pub find_filter : (p : ℕ → Bool) (xs : List ℕ) → find p xs ≡ slice_get (filter p xs) 0
find_filter p [] = refl
find_filter p (x ∷ xs) = elim (cases_Bool (p x)) [
  | inl t ↦ ap (λ (b : Bool). cond b (Some x) (find p xs)) t
      ∙ sym (ap (λ (b : Bool). slice_get (cond b (x ∷ filter p xs) (filter p xs)) 0) t)
  | inr f ↦ ap (λ (b : Bool). cond b (Some x) (find p xs)) f ∙ find_filter p xs
      ∙ sym (ap (λ (b : Bool). slice_get (cond b (x ∷ filter p xs) (filter p xs)) 0) f)
]
