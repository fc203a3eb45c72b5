-- Parts of names of their own, as many as there are names, have all of them.
use Rattle.std.proofs.Common.{◌≡◌, ◌≢◌, inl, inr, ℕ, zero, suc, ◌<◌, eqb, true, false, ◌||◌}
use Rattle.std.proofs.Common.{List, [], ◌∷◌, length, map, refl, sym, ap, ◌∙◌, subst, arith}
use Rattle.std.proofs.Common.{eq-eqb, ne_eqb}
use Rattle.std.specs.List.{list_any, IsDistinct, AllByRecursion}
use Rattle.std.proofs.lemmas.Bool.{cases_Bool, eqb-true, true≢false, or_right}
use Rattle.std.proofs.lemmas.List.{length-map}
use Rattle.std.proofs.lemmas.Map.Steps.{length-le_from_distinct_below}
use mathlib.Core.Option.{some, some-injective, some-ne-none}
use lib.ListN.{get_elem?}

module _ {A : Type 0} (name : A → ℕ) where
  abbrev IsOne : List A → Type 0
  IsOne items =
      (j l : ℕ) (a b : A) → get_elem? items j ≡ some a → get_elem? items l ≡ some b
      → name a ≡ name b → j ≡ l

  abbrev Found : ℕ → List A → Type 0
  Found q items = (j : ℕ) × (a : A) × (get_elem? items j ≡ some a) × (name a ≡ q)

  found : (q : ℕ) (items : List A) → list_any (eqb q) (map name items) ≡ true → Found q items
  found q [] e = absurd (true≢false (sym e))
  found q (a ∷ items) e =
      elim (cases_Bool (eqb q (name a))) as (λ _. Found q (a ∷ items)) [
        | inl t ↦ (0, a, refl, sym (eqb-true q (name a) t))
        | inr f ↦
            let o =
            found q items (sym (ap (λ b. b || list_any (eqb q) (map name items)) f) ∙ e) in
            (suc o.0, o.1, o.2, o.3)
      ]

  here : (q : ℕ) (items : List A) (j : ℕ) (a : A) → get_elem? items j ≡ some a → name a ≡ q
      → list_any (eqb q) (map name items) ≡ true
  here q [] j a at is = absurd (some-ne-none a (sym at))
  here q (b ∷ items) zero a at is =
      let same : q ≡ name b = sym is ∙ sym (ap name (some-injective b a at)) in
      ap (λ t. t || list_any (eqb q) (map name items)) (eq-eqb q (name b) same)
  here q (b ∷ items) (suc j) a at is =
      ap (λ t. eqb q (name b) || t) (here q items j a at is) ∙ or_right (eqb q (name b)) true refl

  apart : (q : ℕ) (items : List A) → ((j : ℕ) (a : A) → get_elem? items j ≡ some a → q ≢ name a)
      → AllByRecursion (λ y. eqb q y ≡ false) (map name items)
  apart q [] none = tt
  apart q (a ∷ items) none =
      (ne_eqb q (name a) (none 0 a refl), apart q items (λ j b at. none (suc j) b at))

  distinct : (items : List A) → IsOne items → IsDistinct eqb (map name items)
  unfolding IsDistinct
  distinct [] one = tt
  distinct (a ∷ items) one = (
    apart (name a) items
        (λ j b at same. let k = one 0 (suc j) a b refl at same in absurd (omega arith)),
    distinct items
        (λ j l b c hb hc same. let k = one (suc j) (suc l) b c hb hc same in omega arith),
  )

  pub all_named : (n : ℕ) (items : List A) → length items ≡ n → IsOne items
      → ((j : ℕ) (a : A) → get_elem? items j ≡ some a → name a < n) → (q : ℕ) → q < n
      → Found q items
  unfolding IsDistinct
  all_named n items long one below q less =
      elim (cases_Bool (list_any (eqb q) (map name items))) as (λ _. Found q items) [
        | inl t ↦ found q items t
        | inr f ↦
            let many =
            length-le_from_distinct_below (q ∷ map name items) n (
              apart q items
                  (λ j a at same. true≢false (sym (here q items j a at (sym same)) ∙ f)),
              distinct items one,
            )
            (λ p has. within p has) in
            let counted = length-map items name in
            absurd (omega arith)
      ]
    where
      within : (p : ℕ) → list_any (eqb p) (q ∷ map name items) ≡ true → p < n
      within p has =
          elim (cases_Bool (eqb p q)) as (λ _. p < n) [
            | inl t ↦ subst (λ k. k < n) (sym (eqb-true p q t)) less
            | inr f ↦
                let o =
                found p items
                (sym (ap (λ b. b || list_any (eqb p) (map name items)) f) ∙ has) in
                subst (λ k. k < n) o.3 (below o.0 o.1 o.2)
          ]
