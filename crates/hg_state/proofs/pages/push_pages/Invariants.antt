use Rattle.std.proofs.Common.{◌≡◌, ◌++◌}
use Rattle.std.specs.List.{flat_map, range_with_len}
use Rattle.hg_state.specs.Pages.{page_text}
use Rattle.hg_state.proofs.pages.push_pages.Given as goal

-- the pages so far are told
abbrev pub invariant-loop-page : goal.invariant-loop-page
invariant-loop-page l = l.out.items ≡ l.fn.out.items ++ flat_map (page_text l.form l.core.state l.segment) (range_with_len 0 l.page)
