use Rattle.std.proofs.Common.{◌≡◌, ℕ, length, slice_index, vec_capacity}
use Rattle.hg_lists.proofs.links.zeros.Given as goal

abbrev pub invariant-loop-at : goal.invariant-loop-at
invariant-loop-at l = record {
  all : length l.links.items ≡ l.at;
  zero : (at : ℕ) → slice_index l.links.items at ≡ 0;
  room : vec_capacity l.links ≡ l.count;
}
