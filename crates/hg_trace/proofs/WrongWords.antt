-- The first word of a line that isn't what is wanted there.
use Rattle.std.proofs.Common.{◌≡◌, ℕ, ◌+◌, ◌<◌, ◌≤◌, true, false, not, List, length, Option, Some, None, ap, below_more, arith}
use Rattle.std.specs.Prelude.{slice_get}
use Rattle.std.specs.Option.{option_map}
use Rattle.hg_policy_text.proofs.FirstRefused.{position-numbers, position-no_number}
use Rattle.hg_trace.specs.declared.wanted.Wanted.{Wanted}
use Rattle.hg_trace.specs.Forms.{wanted_at, is_as_wanted, wrong_in}

module _ (words : List (List ℕ)) where
  -- what stands there is what is wanted
  abbrev pub Fits : ℕ → Type 0
  Fits n = is_as_wanted (wanted_at words n) (slice_get words n) ≡ true

  numbered : Option ℕ → Option (ℕ × Wanted)
  numbered o = option_map (λ n. (n, wanted_at words n)) o

  pub wrong_in-here : (i : ℕ) → i ≤ length words → ((k : ℕ) → k < i → Fits k) → is_as_wanted (wanted_at words i) (slice_get words i) ≡ false → wrong_in words ≡ Some (i, wanted_at words i)
  unfolding numbered
  wrong_in-here i within before wrong =
      ap numbered
      (position-numbers (λ n. not (is_as_wanted (wanted_at words n) (slice_get words n))) (length words + 1) i (omega arith) (ap not wrong) (λ k h. ap not (before k h)))

  pub wrong_in-none : ((k : ℕ) → k < length words → Fits k) → Fits (length words) → wrong_in words ≡ None
  unfolding numbered
  wrong_in-none before end =
      let all : (k : ℕ) → k < length words + 1 → Fits k = below_more _ _ before end in
      ap numbered
      (position-no_number (λ n. not (is_as_wanted (wanted_at words n) (slice_get words n))) (length words + 1) (λ k h. ap not (all k h)))
