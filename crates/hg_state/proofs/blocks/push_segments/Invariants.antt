use Rattle.std.proofs.Common.{◌≡◌, ◌++◌}
use Rattle.std.specs.List.{flat_map, range_with_len}
use Rattle.hg_state.specs.Blocks.{segment_text}
use Rattle.hg_state.proofs.blocks.push_segments.Given as goal

-- the segments so far are told
abbrev pub invariant-loop-segment : goal.invariant-loop-segment
invariant-loop-segment l = l.out.items ≡ l.fn.out.items ++ flat_map (segment_text l.form l.core.state) (range_with_len 0 l.segment)
