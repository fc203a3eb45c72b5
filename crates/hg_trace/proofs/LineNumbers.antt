-- Lines by their numbers.
use Rattle.std.proofs.Common.{◌≡◌, ℕ, zero, suc, ◌+◌, ◌<◌, List, [], ◌∷◌, length, drop, Some, None, refl, ap, sym, ◌∙◌, arith, add-one}
use Rattle.std.specs.Prelude.{slice_get}
use Rattle.std.proofs.lemmas.List.{drop_all}
use Rattle.std.proofs.lemmas.Option.{slice_get_past}
use Rattle.hg_trace.specs.Lines.{lines_of}
use Rattle.hg_trace.specs.FaultyWord.{line_of}

-- the next of a list, and those behind it
pub slice_get-next : {X : Type 0} (xs : List X) (i : ℕ) (x : X) (rest : List X) → drop i xs ≡ x ∷ rest → slice_get xs i ≡ Some x
slice_get-next [] i x rest e = let none : [] ≡ x ∷ rest = sym (drop_all i [] (omega arith)) ∙ e in cc
slice_get-next (y ∷ ys) zero x rest e = let same : y ∷ ys ≡ x ∷ rest = e in let is : y ≡ x = cc in ap (λ z. Some z) is
slice_get-next (y ∷ ys) (suc i) x rest e = slice_get-next ys i x rest e

pub drop-next : {X : Type 0} (xs : List X) (i : ℕ) (x : X) (rest : List X) → drop i xs ≡ x ∷ rest → drop (i + 1) xs ≡ rest
drop-next [] i x rest e = let none : [] ≡ x ∷ rest = sym (drop_all i [] (omega arith)) ∙ e in cc
drop-next (y ∷ ys) zero x rest e = let same : y ∷ ys ≡ x ∷ rest = e in cc
drop-next (y ∷ ys) (suc i) x rest e = rw (add-one) (rw add-one at (drop-next ys i x rest e))

pub line_of-next : (bytes : List ℕ) (at : ℕ) (line : List ℕ) (rest : List (List ℕ)) → drop at (lines_of bytes) ≡ line ∷ rest → line_of bytes (at + 1) ≡ Some line
line_of-next bytes at line rest e = rw add-one (slice_get-next (lines_of bytes) at line rest e)

pub line_of-past : (bytes : List ℕ) (number : ℕ) → (0 < number → length (lines_of bytes) < number) → line_of bytes number ≡ None
line_of-past bytes zero past = refl
line_of-past bytes (suc n) past = let more : length (lines_of bytes) < suc n = past (omega arith) in slice_get_past (lines_of bytes) n (omega arith)
