-- Where the text of a first line ends, and where the next `#` stands once the line is cut off.
use Rattle.std.proofs.Common.{◌≡◌, ℕ, ◌+◌, ◌-◌, ◌≤◌, ◌<◌, Bool, ◌||◌, not, min, ltb, List, [], ◌∷◌, length, take, drop, get_or, refl, sym, ap, ◌∙◌, inl, inr, arith}
use Rattle.std.specs.List.{position_or_len}
use Rattle.hg_trace.specs.Lines.{ends_line, ends_text, is_hash}
use borrow.Author.Tests.{ltb-true, ltb-false}
use Rattle.std.proofs.lemmas.Bool.{cases_Bool}
use Rattle.std.proofs.lemmas.List.{get_or-take, get_or-drop, length-take, length-drop}
use Rattle.std.proofs.lemmas.List.Sums.{prefix_len-le-length, fails_before_first, passes_at_first, position_or_len_is}

module _ {X : Type 0} (p q : X → Bool) where
  -- of two tests the one that an element passes first decides
  pub either_first : (xs : List X) → position_or_len p xs ≤ position_or_len q xs → position_or_len (λ x. p x || q x) xs ≡ position_or_len p xs
  either_first [] h = refl
  either_first (x ∷ xs) h =
      elim (cases_Bool (p x)) [
        | inl e ↦ rw e refl
        | inr e ↦ elim (cases_Bool (q x)) [
          | inl e2 ↦ let here = rw (e, e2) at h in absurd (omega (arith, here))
          | inr e2 ↦ let here = rw (e, e2) at h in rw (e, e2) (ap (λ n. 1 + n) (either_first xs (omega (arith, here))))
        ]
      ]

  pub either_second : (xs : List X) → position_or_len q xs ≤ position_or_len p xs → position_or_len (λ x. p x || q x) xs ≡ position_or_len q xs
  either_second [] h = refl
  either_second (x ∷ xs) h =
      elim (cases_Bool (q x)) [
        | inl e ↦ elim (cases_Bool (p x)) [
          | inl e2 ↦ rw (e, e2) refl
          | inr e2 ↦ rw (e, e2) refl
        ]
        | inr e ↦ elim (cases_Bool (p x)) [
          | inl e2 ↦ let here = rw (e, e2) at h in absurd (omega (arith, here))
          | inr e2 ↦ let here = rw (e, e2) at h in rw (e, e2) (ap (λ n. 1 + n) (either_second xs (omega (arith, here))))
        ]
      ]

module _ (p : ℕ → Bool) (bs : List ℕ) where
  -- what is found before a cut is found in front of it
  pub first_in_front : (n i : ℕ) → i ≡ position_or_len p bs → i < n → n ≤ length bs → i ≡ position_or_len p (take n bs)
  first_in_front n i is here within =
      sym
      (position_or_len_is p (take n bs) i 0 (omega (arith, length-take n bs, here, within))
      (λ k below. ap p (get_or-take n bs k 0 (omega (arith, here, below))) ∙ fails_before_first p bs k 0 (omega (arith, is, below)))
      (λ short. ap p (get_or-take n bs i 0 here) ∙ ap (λ m. p (get_or bs m 0)) is ∙ passes_at_first p bs 0 (omega (arith, is, here, within))))

  -- what is found behind a cut is found as much earlier there
  pub first_behind : (n : ℕ) → n ≤ position_or_len p bs → position_or_len p (drop n bs) ≡ position_or_len p bs - n
  first_behind n after =
      position_or_len_is p (drop n bs) (position_or_len p bs - n) 0 (omega (arith, length-drop n bs, within, after))
      (λ k below. ap p (get_or-drop n bs k 0) ∙ fails_before_first p bs (n + k) 0 (omega (arith, below, after)))
      (λ short. ap p (get_or-drop n bs (position_or_len p bs - n) 0) ∙ ap (λ m. p (get_or bs m 0)) there ∙ passes_at_first p bs 0 (omega (arith, length-drop n bs, short, after)))
    where
      within : position_or_len p bs ≤ length bs
      within = prefix_len-le-length (λ b. not (p b)) bs

      there : n + (position_or_len p bs - n) ≡ position_or_len p bs
      there = omega (arith, after)

-- a text ends at the first `#`, or where its line does
pub text_ends : (bs : List ℕ) → min (position_or_len is_hash bs) (position_or_len ends_line bs) ≡ position_or_len ends_text bs
text_ends bs =
    elim (cases_Bool (ltb (position_or_len is_hash bs) (position_or_len ends_line bs))) [
      | inl e ↦ let less = ltb-true _ _ e in omega (arith, less, either_second ends_line is_hash bs (omega (arith, less)))
      | inr e ↦ let more = ltb-false _ _ e in omega (arith, more, either_first ends_line is_hash bs (omega (arith, more)))
    ]

-- a last line has no end
pub text_ends-last : (bs : List ℕ) → position_or_len ends_line bs ≡ length bs → position_or_len is_hash bs ≡ position_or_len ends_text bs
text_ends-last bs none = sym (either_second ends_line is_hash bs (omega (arith, none, prefix_len-le-length (λ b. not (is_hash b)) bs)))
