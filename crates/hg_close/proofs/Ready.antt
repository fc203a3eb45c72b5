-- Slot words that are ready for segments.
use Rattle.std.proofs.Common.{◌≡◌, ℕ, ◌+◌, ◌<◌, List, [], ◌∷◌, ◌++◌, Option, Some, None, length}
use Rattle.std.proofs.Common.{sym, ap, ◌∙◌, arith, inl, inr, get_or}
use Rattle.std.proofs.lemmas.Bool.{cases_lt}
use Rattle.std.proofs.lemmas.List.{get_or_append_left, get_or_past, get_or_push, get_or_read}
use Rattle.std.proofs.lemmas.Option.{none-some, same_Some}
use Rattle.hg_place.specs.declared.plain.PlainWords.{PlainWords}
use Rattle.hg_close.specs.Rooms.{HasWords}

-- one more
pub more_ready : (words : List (Option PlainWords)) (n : ℕ) (one : PlainWords) → length words ≡ n
    → one.segment ≡ n → ((k : ℕ) → k < n → HasWords words k)
    → (k : ℕ) → k < n + 1 → HasWords (words ++ Some one ∷ []) k
more_ready words n one all is ready k lt = elim (cases_lt k n) [
  | inl less ↦ (
      let r = ready k less in (
        r.0,
        get_or_append_left words (Some one ∷ []) None k (omega (arith, less, all)) ∙ r.1,
        r.2,
      ))
  | inr ge ↦ (
      let same : k ≡ length words = omega (arith, lt, ge, all) in (
        one,
        get_or_push words (Some one) None k (sym same),
        is ∙ sym all ∙ sym same,
      ))
]

-- those that are taken out are of that number
pub taken_ready : (words : List (Option PlainWords)) (n : ℕ) (o : Option PlainWords)
    (one : PlainWords) → HasWords words n → o ≡ get_or words n o → o ≡ Some one → one.segment ≡ n
taken_ready words n o one has read is = elim (cases_lt n (length words)) [
  | inl lt ↦ (
      let same : one ≡ has.0 =
      same_Some one has.0 (sym is ∙ get_or_read words n o lt read None ∙ has.1) in
      ap (λ (w : PlainWords). w.segment) same ∙ has.2)
  | inr ge ↦ absurd (none-some has.0 (sym (get_or_past words n None ge) ∙ has.1))
]
