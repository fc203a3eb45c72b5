-- Blocks: a handle behind an `@`, or a label.
use Rattle.std.specs.Prelude.{ℕ, ◌==◌, List, [], ◌∷◌, Option, Some, Result, Ok, Err}
use Rattle.std.specs.Prelude.{if◌then◌else◌, option_map, position, bytes_eq}
use Rattle.hg_policy_text.specs.NameForm.{is_name}
use Rattle.hg_trace.specs.declared.line.BlockName.{BlockName}
use Rattle.hg_trace.specs.declared.line.BlockName.TheVariants as block_name
use Rattle.hg_trace.specs.declared.fault.LineFault.{LineFault}
use Rattle.hg_trace.specs.declared.fault.LineFault.TheVariants as fault
use Rattle.hg_trace.specs.Faults.{◌>>=◌}
use Rattle.hg_trace.specs.Handles.{handle_of}

-- the number of the label that a word is, among these, which stand as lines gave them
abbrev pub label_of : List (List ℕ) → List ℕ → Result (Option ℕ) LineFault
label_of labels word =
    if is_name word then Ok (position (λ label. bytes_eq word label) labels)
    else Err fault.Operand

-- the block that a word means: an `@` and a handle, or a label; None for one that no line gave
unfoldable pub block_of : List (List ℕ) → List ℕ → Result (Option BlockName) LineFault
block_of labels [] = Err fault.Operand
block_of labels (b ∷ bs) =
    if b == 64 then (handle_of bs >>= λ handle. Ok (Some (block_name.Handle handle)))
    else (label_of labels (b ∷ bs) >>= λ label. Ok (option_map (λ n. block_name.Label n) label))

-- as an operand
unfoldable pub block_operand
    : List (List ℕ) → List (List ℕ) → Result (Option BlockName × List (List ℕ)) LineFault
block_operand labels [] = Err fault.Operand
block_operand labels (word ∷ words) = block_of labels word >>= λ block. Ok (block, words)
