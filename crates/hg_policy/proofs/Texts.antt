-- Texts that are the same, and texts that are not.
use Rattle.std.proofs.Common.{◌≡◌, ◌≢◌, ℕ, true, false, List, sym, ◌∙◌, inl, inr}
use Rattle.std.specs.Str.{bytes_eq}
use Rattle.std.proofs.lemmas.Bool.{true≢false, cases_Bool, false_from_ne_true}
use Rattle.std.proofs.lemmas.Slice.Eq.{bytes_eq-Decides}

pub same_text : (a b : List ℕ) → bytes_eq a b ≡ true → a ≡ b
same_text a b = (bytes_eq-Decides a b).0

pub text_same : (a b : List ℕ) → a ≡ b → bytes_eq a b ≡ true
text_same a b = (bytes_eq-Decides a b).1

pub text_other : (a b : List ℕ) → a ≢ b → bytes_eq a b ≡ false
text_other a b other = false_from_ne_true (bytes_eq a b) (λ e. other (same_text a b e))

pub text_turned : (a b : List ℕ) → bytes_eq a b ≡ bytes_eq b a
text_turned a b = elim (cases_Bool (bytes_eq b a)) [
  | inl same ↦ text_same a b (sym (same_text b a same)) ∙ sym same
  | inr other ↦ text_other a b (λ e. true≢false (sym (text_same b a (sym e)) ∙ other)) ∙ sym other
]
