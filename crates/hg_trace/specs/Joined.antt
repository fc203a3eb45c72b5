-- A policy and a trace in one text, with a line of three dashes between them.
use Rattle.std.specs.Prelude.{ℕ, ◌||◌, Bool, List, [], ◌∷◌, codes, bytes_eq, if◌then◌else◌}
use Rattle.std.specs.List.{concat, before_first}
use Rattle.hg_trace.specs.Lines.{lines_of, ends_line}

-- three dashes, which a byte 0D may follow
abbrev pub is_mark : List ℕ → Bool
is_mark line =
    bytes_eq (before_first ends_line line) (codes "---")
    || bytes_eq (before_first ends_line line) (codes "---\r")

-- the lines before the first mark, and those after it
abbrev pub around_mark : List (List ℕ) → List (List ℕ) × List (List ℕ)
around_mark [] = ([], [])
around_mark (line ∷ lines) =
    if is_mark line then ([], lines) else (line ∷ (around_mark lines).0, (around_mark lines).1)

-- the policy's bytes, and the trace's
abbrev pub policy_in : List ℕ → List ℕ
policy_in bytes = concat (around_mark (lines_of bytes)).0

abbrev pub trace_in : List ℕ → List ℕ
trace_in bytes = concat (around_mark (lines_of bytes)).1
