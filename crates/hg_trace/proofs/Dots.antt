-- Where a text is cut at its dots.
use Rattle.std.proofs.Common.{◌≡◌, ℕ, ◌+◌, List, [], ◌∷◌, length, take, drop, Some, None, refl, ap, sym, subst, inl, inr, arith}
use Rattle.std.specs.List.{onto_first, position_or_len}
use Rattle.std.specs.Prelude.{position}
use Rattle.std.proofs.lemmas.Bool.{cases_Bool}
use Rattle.std.proofs.lemmas.List.Splits.{slice_split_first}
use Rattle.hg_trace.proofs.Firsts.{position_some, position_none}
use Rattle.hg_trace.specs.Handles.{is_dot, parts_of}

-- where there is a dot, the part before it, and those of what follows
pub parts_of-next : (text : List ℕ) (end : ℕ) → Some end ≡ position is_dot text → parts_of text ≡ take end text ∷ parts_of (drop (end + 1) text)
parts_of-next text end found =
    let (here, within) = position_some is_dot text end found in
    subst (λ n. parts_of text ≡ take n text ∷ parts_of (drop (n + 1) text)) (sym here) (slice_split_first is_dot text 0 within)

no_dot : (text : List ℕ) → position_or_len is_dot text ≡ length text → parts_of text ≡ text ∷ []
no_dot [] h = refl
no_dot (b ∷ bs) h =
    let rest = no_dot bs in
    elim (cases_Bool (is_dot b)) [
      | inl e ↦ let here = rw e at h in absurd (omega arith)
      | inr e ↦ let here = rw e at h in rw e (ap (onto_first b) (rest (omega arith)))
    ]

-- where there is none, the text is the one part
pub parts_of-last : (text : List ℕ) → None ≡ position is_dot text → parts_of text ≡ text ∷ []
parts_of-last text found = no_dot text (position_none is_dot text found)
