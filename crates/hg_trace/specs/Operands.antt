-- Operands are read one after another: each is the next word, and is read with the words after it.
use Rattle.std.specs.Prelude.{ℕ, List, [], ◌∷◌, Option, Some, None, Result, Ok, Err}
use Rattle.std.specs.Prelude.{ok_or, bytes_eq, codes, if◌then◌else◌}
use Rattle.hg_policy_text.specs.NameForm.{is_name}
use Rattle.hg_trace.specs.declared.fault.LineFault.{LineFault}
use Rattle.hg_trace.specs.declared.fault.LineFault.TheVariants as fault
use Rattle.hg_trace.specs.Faults.{◌>>=◌}
use Rattle.hg_trace.specs.Numbers.{number_below}

abbrev pub name_operand : List (List ℕ) → Result (List ℕ × List (List ℕ)) LineFault
name_operand [] = Err fault.Operand
name_operand (word ∷ words) = if is_name word then Ok (word, words) else Err fault.Operand

abbrev pub number_operand : ℕ → List (List ℕ) → Result (ℕ × List (List ℕ)) LineFault
number_operand limit [] = Err fault.Operand
number_operand limit (word ∷ words) =
    ok_or (number_below limit word) fault.Operand >>= λ n. Ok (n, words)

-- there is no further operand
abbrev pub no_operand : List (List ℕ) → Result (Unit {0}) LineFault
no_operand [] = Ok tt
no_operand (word ∷ words) = Err fault.Operand

-- no further operand, or `as` and the label that the line gives
unfoldable pub label_operand : List (List ℕ) → Result (Option (List ℕ)) LineFault
label_operand [] = Ok None
label_operand (word ∷ words) =
    if bytes_eq word (codes "as")
    then (do
      label ← name_operand words
      end ← no_operand label.1
      Ok (Some label.0))
    else Err fault.Operand
