-- How places, handles, blocks and lines are written in their plain form.
use Rattle.std.specs.Prelude.{ℕ, ◌++◌, List, [], ◌∷◌, Option, Some, None, codes, decimal, get_or}
use Rattle.std.specs.List.{join_with_byte}
use Rattle.hg_trace.specs.declared.line.BlockName.{BlockName}
use Rattle.hg_trace.specs.declared.line.BlockName.TheVariants as block_name
use Rattle.hg_trace.specs.declared.line.Command.{Command}
use Rattle.hg_trace.specs.declared.line.Command.TheVariants as command
use Rattle.hg_trace.specs.declared.line.Line.{Line}
use Rattle.hg_trace.specs.Labels.{with_label}
pub use Rattle.hg_place.specs.Texts.{place_text, handle_text}

-- a handle, or the text of a label by its number among these
abbrev pub block_text : List (List ℕ) → BlockName → List ℕ
block_text labels (block_name.Handle handle) = handle_text handle
block_text labels (block_name.Label n) = get_or labels n []

-- `w` and the worker's number
abbrev pub worker_text : ℕ → List ℕ
worker_text worker = codes "w" ++ decimal worker

-- nothing, or `as` and the label that the line gives
abbrev pub label_words : Option (List ℕ) → List (List ℕ)
label_words None = []
label_words (Some label) = codes "as" ∷ label ∷ []

-- the command's name, and then its operands
abbrev pub command_words : List (List ℕ) → Command → List (List ℕ)
command_words labels (command.Alloc actor arena bytes label) =
    codes "alloc" ∷ actor ∷ arena ∷ decimal bytes ∷ label_words label
command_words labels (command.Free actor block) =
    codes "free" ∷ actor ∷ block_text labels block ∷ []
command_words labels command.Deliver = codes "deliver" ∷ []
command_words labels (command.Take segment) = codes "take" ∷ decimal segment ∷ []
command_words labels command.Collect = codes "collect" ∷ []
command_words labels (command.Read actor block index) =
    codes "read" ∷ actor ∷ block_text labels block ∷ decimal index ∷ []
command_words labels (command.Write actor block index value) =
    codes "write" ∷ actor ∷ block_text labels block ∷ decimal index ∷ decimal value ∷ []
command_words labels (command.Look actor place) =
    codes "look" ∷ actor ∷ place_text place ∷ []
command_words labels (command.List actor) = codes "list" ∷ actor ∷ []
command_words labels (command.Abandon segment) = codes "abandon" ∷ decimal segment ∷ []
command_words labels (command.Refill arena) = codes "refill" ∷ arena ∷ []

-- the worker, and then its command
abbrev pub line_words : List (List ℕ) → ℕ → Command → List (List ℕ)
line_words labels worker command = worker_text worker ∷ command_words labels command

-- with one blank between one word and the next
abbrev pub line_text : List (List ℕ) → ℕ → Command → List ℕ
line_text labels worker command = join_with_byte 32 (line_words labels worker command)

-- each line with its end, where earlier lines gave these labels
abbrev pub lines_text : List (List ℕ) → List Line → List ℕ
lines_text labels [] = []
lines_text labels (line ∷ lines) =
    line_text labels line.worker line.command ++ codes "\n"
    ++ lines_text (with_label labels line.command) lines
