use Rattle.std.proofs.Common.{◌≡◌, ◌+◌, ◌<◌, length, drop}
use Rattle.hg_trace.specs.Lines.{lines_of}
use Rattle.hg_trace.proofs.faulty.text_of.Given as goal

abbrev pub invariant-loop-line : goal.invariant-loop-line
invariant-loop-line l = record {
  counted : l.at + length l.lines ≡ length (lines_of l.bytes);
  rest : l.lines ≡ drop l.at (lines_of l.bytes);
  early : 0 < l.number → l.at < l.number;
}

abbrev pub decreases-loop-line : goal.decreases-loop-line
decreases-loop-line l = length l.lines
