-- Where a text is cut from its line.
use Rattle.std.proofs.Common.{◌≡◌, ℕ, ◌+◌, ◌<◌, suc, not, Bool, true, false, ◌&&◌, List, [], ◌∷◌, length, take, refl, inl, inr, arith}
use Rattle.std.specs.Prelude.{slice_index}
use Rattle.std.specs.List.{list_all, position_or_len, before_first}
use Rattle.std.proofs.lemmas.Bool.{cases_Bool}

one_more : (n : ℕ) → 1 + n ≡ suc n
one_more n = omega arith

module _ (allowed ends : ℕ → Bool) where
  -- the bytes before the first that isn't allowed or that ends the text
  abbrev pub read_len : List ℕ → ℕ
  read_len bs = position_or_len (λ b. not (allowed b && not (ends b))) bs

  pub read_allowed : (bs : List ℕ) → list_all allowed (take (read_len bs) bs) ≡ true
  read_allowed [] = refl
  read_allowed (b ∷ bs) =
      elim (cases_Bool (allowed b)) [
        | inl a ↦ elim (cases_Bool (ends b)) [
          | inl e ↦ rw (a, e) refl
          | inr e ↦ rw (a, e, one_more (read_len bs)) (rw a (read_allowed bs))
        ]
        | inr a ↦ rw a refl
      ]

  -- no byte ends the text before
  pub read_whole : (bs : List ℕ) → read_len bs ≡ length bs → position_or_len ends bs ≡ read_len bs
  read_whole [] h = refl
  read_whole (b ∷ bs) h =
      elim (cases_Bool (allowed b)) [
        | inl a ↦ elim (cases_Bool (ends b)) [
          | inl e ↦ let here = rw (a, e) at h in absurd (omega arith)
          | inr e ↦ let here = rw (a, e) at h in rw (a, e) (omega (arith, read_whole bs (omega arith)))
        ]
        | inr a ↦ let here = rw a at h in absurd (omega arith)
      ]

  -- the text ends there
  pub read_to_end : (bs : List ℕ) → read_len bs < length bs → ends (slice_index bs (read_len bs)) ≡ true → position_or_len ends bs ≡ read_len bs
  read_to_end [] within h = absurd (omega arith)
  read_to_end (b ∷ bs) within h =
      elim (cases_Bool (allowed b)) [
        | inl a ↦ elim (cases_Bool (ends b)) [
          | inl e ↦ rw (a, e) refl
          | inr e ↦
              let short = rw (a, e) at within in
              let end = rw (a, e, one_more (read_len bs)) at h in
              rw (a, e) (omega (arith, read_to_end bs (omega arith) end))
        ]
        | inr a ↦ let end = rw a at h in rw (a, end) refl
      ]

  -- or the byte isn't allowed, and stands in the text
  pub read_stopped : (bs : List ℕ) → read_len bs < length bs → ends (slice_index bs (read_len bs)) ≡ false → list_all allowed (before_first ends bs) ≡ false
  read_stopped [] within h = absurd (omega arith)
  read_stopped (b ∷ bs) within h =
      elim (cases_Bool (allowed b)) [
        | inl a ↦ elim (cases_Bool (ends b)) [
          | inl e ↦ let end = rw (a, e) at h in absurd (cc)
          | inr e ↦
              let short = rw (a, e) at within in
              let end = rw (a, e, one_more (read_len bs)) at h in
              rw (e, one_more (position_or_len ends bs)) (rw a (read_stopped bs (omega arith) end))
        ]
        | inr a ↦ let end = rw a at h in rw (end, one_more (position_or_len ends bs)) (rw a refl)
      ]
