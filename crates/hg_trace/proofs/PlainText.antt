-- Lines of plain bytes alone.
use Rattle.std.proofs.Common.{◌≡◌, ℕ, Bool, true, false, ◌&&◌, ◌||◌, ◌==◌, suc, ◌+◌, List, [], ◌∷◌, refl, inl, inr, arith}
use Rattle.std.specs.List.{list_all, onto_first, position_or_len}
use Rattle.std.proofs.lemmas.Bool.{cases_Bool}
use Rattle.hg_trace.specs.Lines.{lines_of, ends_line, ends_text, is_allowed, is_plain, before_comment}

one_more : (n : ℕ) → 1 + n ≡ suc n
one_more n = omega arith

both : (a b : Bool) → a && b ≡ true → (a ≡ true) × (b ≡ true)
both true b h = (refl, h)
both false b h = absurd (cc)

module _ (p : ℕ → Bool) where
  onto_all : (b : ℕ) (lines : List (List ℕ)) → p b ≡ true → list_all (list_all p) lines ≡ true → list_all (list_all p) (onto_first b lines) ≡ true
  onto_all b [] one all = rw one refl
  onto_all b (line ∷ lines) one all = rw one all

  -- what all bytes pass, those of each line pass
  pub lines_of-all : (bs : List ℕ) → list_all p bs ≡ true → list_all (list_all p) (lines_of bs) ≡ true
  lines_of-all [] h = refl
  lines_of-all (b ∷ bs) h =
      let parts = both (p b) (list_all p bs) h in
      let rest = lines_of-all bs parts.1 in
      elim (cases_Bool (ends_line b)) [
        | inl e ↦ rw (e, parts.0) rest
        | inr e ↦ rw e (onto_all b (lines_of bs) parts.0 rest)
      ]

allowed : (b : ℕ) → is_plain b ≡ true → ends_text b ≡ false → is_allowed b ≡ true
allowed b plain goes_on = by_cases (is_allowed b) (ends_line b) plain goes_on
  where
    by_cases : (a e : Bool) → a || e ≡ true → e || (b == 35) ≡ false → a ≡ true
    by_cases true e plain goes_on = refl
    by_cases false true plain goes_on = absurd (cc)
    by_cases false false plain goes_on = absurd (cc)

-- what is read of a plain line may be read
pub text_allowed : (line : List ℕ) → list_all is_plain line ≡ true → list_all is_allowed (before_comment line) ≡ true
text_allowed [] h = refl
text_allowed (b ∷ bs) h =
    let parts = both (is_plain b) (list_all is_plain bs) h in
    elim (cases_Bool (ends_text b)) [
      | inl e ↦ rw e refl
      | inr e ↦ rw (e, one_more (position_or_len ends_text bs)) (rw (allowed b parts.0 e) (text_allowed bs parts.1))
    ]
