-- Lines of a trace, each with its answer below it.
use Rattle.std.specs.Prelude.{ℕ, ◌-◌, List, ◌++◌, Option, Some, None}
use Rattle.std.specs.Prelude.{codes, decimal, length, map, take}
use Rattle.hg_reasons.specs.Shown.{shown}

-- a line with its number
unfoldable pub line_text : ℕ → List ℕ → List ℕ
line_text number text = decimal number ++ codes ": " ++ map shown text ++ codes "\n"

-- an answer without the byte at its end
abbrev pub without_end : List ℕ → List ℕ
without_end reply = take (length reply - 1) reply

-- an answer with its reason, if it has one
unfoldable pub reply_text : List ℕ → Option (List ℕ) → List ℕ
reply_text reply None = reply
reply_text reply (Some reason) = without_end reply ++ codes ": " ++ reason ++ codes "\n"
