use Rattle.std.proofs.Common.{◌≡◌, ℕ, ◌<◌, length, slice_index_or}
use Rattle.hg_reserved.proofs.reserved.fill.Given as goal

abbrev pub invariant-loop-at : goal.invariant-loop-at
invariant-loop-at g l = record {
  all : length l.values ≡ length l.fn.values;
  blank : (k : ℕ) → k < l.at → slice_index_or l.values k g.T.Blank.blank ≡ g.T.Blank.blank;
}
