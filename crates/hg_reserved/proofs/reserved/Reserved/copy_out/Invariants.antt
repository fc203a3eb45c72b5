use Rattle.std.proofs.Common.{◌≡◌, ℕ, ◌+◌, ◌<◌, length, slice_index_or}
use Rattle.hg_reserved.proofs.reserved.Reserved.copy_out.Given as goal

abbrev pub invariant-loop-at : goal.invariant-loop-at
invariant-loop-at g l = record {
  all : length l.into ≡ length l.fn.into;
  copied : (k : ℕ) → k < l.at
      → slice_index_or l.into k g.T.Blank.blank
      ≡ slice_index_or l.self (l.from + k) g.T.Blank.blank;
}
