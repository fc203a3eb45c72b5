-- What the bytes of a trace mean, or the fault of the first faulty line.
use Rattle.std.specs.Prelude.{ℕ, ◌+◌, List, [], ◌∷◌, ◌++◌, Option, Some, None, Result, Ok, Err}
use Rattle.std.specs.Prelude.{if◌then◌else◌}
use Rattle.std.specs.List.{list_all}
use Rattle.hg_trace.specs.declared.line.Command.{Command}
use Rattle.hg_trace.specs.declared.line.Line.{Line}
use Rattle.hg_trace.specs.declared.fault.LineFault.{LineFault}
use Rattle.hg_trace.specs.declared.fault.LineFault.TheVariants as fault
use Rattle.hg_trace.specs.declared.fault.TraceFault.{TraceFault}
use Rattle.hg_trace.specs.declared.fault.TraceFault.TheVariants as trace_fault
use Rattle.hg_trace.specs.Faults.{◌>>=◌}
use Rattle.hg_trace.specs.Lines.{lines_of, before_comment, split_words, is_allowed}
use Rattle.hg_trace.specs.Labels.{labels_after}
use Rattle.hg_trace.specs.Commands.{words_at}

-- what a line means, if anything, where earlier lines gave these labels
unfoldable pub line_at : List (List ℕ) → List ℕ → Result (Option (ℕ × Command)) LineFault
line_at labels line =
    if list_all is_allowed (before_comment line)
    then words_at labels (split_words (before_comment line))
    else Err fault.Byte

-- a line with its number, if it means something
abbrev pub numbered : ℕ → Result (Option (ℕ × Command)) LineFault → Result (List Line) TraceFault
numbered number (Err fault) = Err (trace_fault.Line number fault)
numbered number (Ok None) = Ok []
numbered number (Ok (Some (worker, command))) =
    Ok (record { number = number; worker = worker; command = command } ∷ [])

-- what the lines from this number on mean, where earlier ones gave these labels, or the fault of
-- the first faulty one
abbrev pub lines_from : ℕ → List (List ℕ) → List (List ℕ) → Result (List Line) TraceFault
lines_from number labels [] = Ok []
lines_from number labels (line ∷ lines) = do
  here ← numbered number (line_at labels line)
  rest ← lines_from (number + 1) (labels_after labels here) lines
  Ok (here ++ rest)

-- lines are numbered from 1
abbrev pub trace_of : List ℕ → Result (List Line) TraceFault
trace_of bytes = lines_from 1 [] (lines_of bytes)
