-- Where lines are cut.
use Rattle.std.proofs.Common.{◌≡◌, ◌==◌, false, ℕ, ◌+◌, ◌≤◌, ◌<◌, suc, List, [], ◌∷◌, length, take, drop, cond, refl, sym, ap, ◌∙◌, inl, inr, arith}
use Rattle.std.specs.List.{concat, onto_first, position_or_len}
use Rattle.std.proofs.lemmas.Bool.{cases_Bool}
use Rattle.std.proofs.Math.Seq.{take-length, drop-length}
use Rattle.hg_trace.specs.Lines.{lines_of, ends_line}

pub concat-lines_of : (bs : List ℕ) → concat (lines_of bs) ≡ bs
concat-lines_of [] = refl
concat-lines_of (b ∷ bs) =
    elim (cases_Bool (ends_line b)) [
      | inl e ↦ rw (e, concat-lines_of bs) refl
      | inr e ↦ rw e (onto (lines_of bs) ∙ ap (λ xs. b ∷ xs) (concat-lines_of bs))
    ]
  where
    onto : (ls : List (List ℕ)) → concat (onto_first b ls) ≡ b ∷ concat ls
    onto [] = refl
    onto (l ∷ ls) = refl

-- no more lines than bytes
pub length-lines_of : (bs : List ℕ) → length (lines_of bs) ≤ length bs
length-lines_of [] = omega arith
length-lines_of (b ∷ bs) =
    elim (cases_Bool (ends_line b)) [
      | inl e ↦ rw e (omega (arith, length-lines_of bs))
      | inr e ↦ rw e (onto bs (length-lines_of bs))
    ]
  where
    onto : (bs : List ℕ) → length (lines_of bs) ≤ length bs → length (onto_first b (lines_of bs)) ≤ suc (length bs)
    onto bs h = first (lines_of bs) (length bs) h
      where
        first : (ls : List (List ℕ)) (n : ℕ) → length ls ≤ n → length (onto_first b ls) ≤ suc n
        first [] n h = omega arith
        first (l ∷ ls) n h = omega arith

-- the length of the first line, with its end
abbrev pub first_len : List ℕ → ℕ
first_len [] = 0
first_len (b ∷ bs) = cond (ends_line b) 1 (suc (first_len bs))

pub lines_of-first : (b : ℕ) (bs : List ℕ)
    → lines_of (b ∷ bs) ≡ take (first_len (b ∷ bs)) (b ∷ bs) ∷ lines_of (drop (first_len (b ∷ bs)) (b ∷ bs))
lines_of-first b [] =
    elim (cases_Bool (ends_line b)) [
      | inl e ↦ rw e refl
      | inr e ↦ rw e refl
    ]
lines_of-first b (x ∷ xs) =
    let rest = lines_of-first x xs in
    elim (cases_Bool (ends_line b)) [
      | inl e ↦ rw e refl
      | inr e ↦ rw e (ap (onto_first b) rest)
    ]

pub lines_of-cut : (bs : List ℕ) (n : ℕ) → 0 < length bs → n ≡ first_len bs → lines_of bs ≡ take n bs ∷ lines_of (drop n bs)
lines_of-cut [] n some e = absurd (omega arith)
lines_of-cut (b ∷ bs) n some e = rw e (lines_of-first b bs)

-- by the place of its end
pub first_len-some : (bs : List ℕ) → position_or_len ends_line bs < length bs → first_len bs ≡ position_or_len ends_line bs + 1
first_len-some [] h = absurd (omega arith)
first_len-some (b ∷ bs) h =
    let rest = first_len-some bs in
    elim (cases_Bool (ends_line b)) [
      | inl e ↦ rw e (omega arith)
      | inr e ↦ let within = rw e at h in rw e (omega (arith, rest (omega arith)))
    ]

pub first_len-none : (bs : List ℕ) → position_or_len ends_line bs ≡ length bs → first_len bs ≡ length bs
first_len-none [] h = refl
first_len-none (b ∷ bs) h =
    let rest = first_len-none bs in
    elim (cases_Bool (ends_line b)) [
      | inl e ↦ let here = rw e at h in absurd (omega arith)
      | inr e ↦ let here = rw e at h in rw e (ap suc (rest (omega arith)))
    ]

pub some_left : (bs : List ℕ) → (length bs == 0) ≡ false → 0 < length bs
some_left [] h = absurd (cc)
some_left (b ∷ bs) h = omega arith

-- bytes in which no line ends are one line
pub last_line : (bs : List ℕ) → 0 < length bs → position_or_len ends_line bs ≡ length bs → lines_of bs ≡ bs ∷ []
last_line bs some none =
    lines_of-cut bs (length bs) some (sym (first_len-none bs none)) ∙ ap (λ l. l ∷ lines_of (drop (length bs) bs)) (take-length bs)
    ∙ ap (λ t. bs ∷ lines_of t) (drop-length bs)
