use Rattle.std.proofs.Common.{◌≡◌, ◌+◌, length, ◌++◌, Ok, true}
use Rattle.std.specs.List.{list_all}
use Rattle.hg_trace.specs.Faults.{◌>>=◌}
use Rattle.hg_trace.specs.Lines.{lines_of, is_plain}
use Rattle.hg_trace.specs.Stored.{lines_in}
use Rattle.hg_trace.specs.Trace.{lines_from, trace_of}
use Rattle.hg_trace.proofs.read.read_trace.Given as goal

-- what was read and what the lines that are left mean, is what all mean
abbrev pub invariant-loop-line : goal.invariant-loop-line
invariant-loop-line l = record {
  numbered : l.number + length l.lines ≡ length (lines_of l.bytes);
  plain : l.plain ≡ true → list_all (list_all is_plain) l.lines ≡ true;
  read : (lines_from (l.number + 1) l.trace.labels l.lines >>= λ rest. Ok (lines_in l.trace ++ rest)) ≡ trace_of l.bytes;
}

abbrev pub decreases-loop-line : goal.decreases-loop-line
decreases-loop-line l = length l.lines
