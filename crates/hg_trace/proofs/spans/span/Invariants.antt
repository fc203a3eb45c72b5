use Rattle.std.proofs.Common.{◌≡◌, ℕ, ◌+◌, ◌≤◌, ◌++◌, length, take, drop}
use Rattle.hg_trace.specs.Lines.{split_words}
use Rattle.hg_trace.proofs.spans.span.Given as goal

abbrev pub invariant-loop-before : goal.invariant-loop-before
invariant-loop-before l = record {
  within : l.behind ≤ length l.text;
  rest : split_words (drop l.behind l.text) ≡ drop l._before (split_words l.text);
  joined : (n : ℕ) → split_words (take (l.behind + n) l.text) ≡ take l._before (split_words l.text) ++ split_words (take n (drop l.behind l.text));
}
