use Rattle.std.proofs.Common.{◌≡◌, ◌++◌}
use Rattle.std.specs.List.{flat_map, range_with_len}
use Rattle.hg_state.specs.Pictures.{place_shape}
use Rattle.hg_state.proofs.picture.push_places.Given as goal

-- the places so far are drawn
abbrev pub invariant-loop-index : goal.invariant-loop-index
invariant-loop-index l = l.out.items ≡ l.fn.out.items ++ flat_map (place_shape l.drawing l.core.state l.first) (range_with_len 0 l.index)
