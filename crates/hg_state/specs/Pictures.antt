-- Segments, pages and places, drawn.
use Rattle.std.specs.Prelude.{ℕ, ◌+◌, ◌++◌, List, [], Option, Some, None}
use Rattle.std.specs.List.{flat_map, range_with_len}
use Rattle.hg_size.specs.Sizes.{places_of}
use Rattle.hg_machine.specs.State.{State}
use Rattle.hg_core.specs.BlockPlaces.{first_place}
use Rattle.hg_core.specs.PageClasses.{page_class}
use Rattle.hg_show.specs.Parts.{tenants_in}
use Rattle.hg_state.specs.Cells.{cell_at}
use Rattle.hg_state.specs.Pages.{pages_in}
use Rattle.hg_state.specs.Shapes.{cell_shape, head_shape, page_back, page_front, picture_back}
use Rattle.hg_state.specs.Shapes.{row_shape, tenant_shape}
use Rattle.hg_state.specs.Workers.{segments_in}
use Rattle.hg_state.specs.declared.form.Drawing.{Drawing}

-- the place of this index, of a page whose first place has this number
abbrev pub place_shape : Drawing → State → ℕ → ℕ → List ℕ
place_shape drawing s first index = cell_shape drawing index (cell_at s (first + index))

-- a page with each place that its blocks have; nothing where it has no class
abbrev pub shape_by : Drawing → State → ℕ → ℕ → Option ℕ → List ℕ
shape_by drawing s segment page None = []
shape_by drawing s segment page (Some class) =
    page_front drawing segment page class
    ++ flat_map (place_shape drawing s (first_place segment page))
    (range_with_len 0 (places_of class))
    ++ page_back drawing

unfoldable pub page_shape : Drawing → State → ℕ → ℕ → List ℕ
page_shape drawing s segment page = shape_by drawing s segment page (page_class s segment page)

-- a segment with its pages
unfoldable pub segment_shape : Drawing → State → ℕ → List ℕ
segment_shape drawing s segment =
    row_shape drawing s segment ++ flat_map (page_shape drawing s segment) pages_in

unfoldable pub picture : Drawing → State → List ℕ
picture drawing s =
    head_shape drawing s.policy
    ++ flat_map (segment_shape drawing s) (segments_in s)
    ++ flat_map (tenant_shape drawing s.policy) (tenants_in s.policy) ++ picture_back drawing
