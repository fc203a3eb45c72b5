-- What reading a line adds to what was read.
use Rattle.std.specs.Prelude.{◌≡◌, ◌≢◌, ℕ, List, ◌++◌, Result, Ok, Err}
use Rattle.hg_trace.specs.declared.line.Line.{Line}
use Rattle.hg_trace.specs.declared.fault.TraceFault.{TraceFault}
use Rattle.hg_trace.specs.declared.fault.TraceFault.TheVariants as trace_fault
use Rattle.hg_trace.specs.Labels.{labels_after}

-- what the line means goes behind the trace and its label behind the labels; or its fault is told,
-- want of memory aside
abbrev pub Reads
    : Result (List Line) TraceFault → List Line → List Line → List (List ℕ) → List (List ℕ)
    → Result (Unit {0}) TraceFault → Type 0
Reads means old new labels labels' (Ok done) =
    (here : List Line) × (means ≡ Ok here) × (new ≡ old ++ here)
    × (labels' ≡ labels_after labels here)
Reads means old new labels labels' (Err fault) = fault ≢ trace_fault.Memory → means ≡ Err fault
