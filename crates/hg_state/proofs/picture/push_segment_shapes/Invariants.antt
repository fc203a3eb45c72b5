use Rattle.std.proofs.Common.{◌≡◌, ◌++◌}
use Rattle.std.specs.List.{flat_map, range_with_len}
use Rattle.hg_state.specs.Pictures.{segment_shape}
use Rattle.hg_state.proofs.picture.push_segment_shapes.Given as goal

-- the segments so far are drawn
abbrev pub invariant-loop-segment : goal.invariant-loop-segment
invariant-loop-segment l = l.out.items ≡ l.fn.out.items ++ flat_map (segment_shape l.drawing l.core.state) (range_with_len 0 l.segment)
