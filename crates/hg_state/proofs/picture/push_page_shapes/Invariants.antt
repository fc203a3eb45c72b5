use Rattle.std.proofs.Common.{◌≡◌, ◌++◌}
use Rattle.std.specs.List.{flat_map, range_with_len}
use Rattle.hg_state.specs.Pictures.{page_shape}
use Rattle.hg_state.proofs.picture.push_page_shapes.Given as goal

-- the pages so far are told
abbrev pub invariant-loop-page : goal.invariant-loop-page
invariant-loop-page l = l.out.items ≡ l.fn.out.items ++ flat_map (page_shape l.drawing l.core.state l.segment) (range_with_len 0 l.page)
