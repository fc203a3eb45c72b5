use Rattle.std.proofs.Common.{◌≡◌, ◌≤◌, ◌<◌, ◌+◌, ◌*◌, ℕ, false, length, slice_index_or}
use Rattle.hg_place.specs.Standings.{standing_at}
use Rattle.hg_segment.specs.Right.{is_worn}
use Rattle.hg_segment.proofs.classes.worn_in.Given as goal

abbrev pub invariant-loop-index : goal.invariant-loop-index
invariant-loop-index g l = record {
  all : length l.worn ≡ 512;
  below : (i : ℕ) → i < l.index → slice_index_or l.worn i false ≡ is_worn l.greatest (standing_at (g.S.SlotWords.records l.slots) (l.page * 512 + i));
  above : (i : ℕ) → l.index ≤ i → slice_index_or l.worn i false ≡ false;
}
