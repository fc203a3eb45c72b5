-- Where a page lies in its segment, and its blocks in the page.
use Rattle.std.specs.Prelude.{ℕ, ◌+◌, ◌*◌}
use Rattle.hg_page.specs.declared.page.Page.{Page}

-- the first word of the page, how many words a block has, and how many places there are
pub record Shape : Type 0 where
  pub base : ℕ
  pub size : ℕ
  pub places : ℕ

abbrev pub shape_of : Page → Shape
shape_of p = record { base = p.base; size = p.size; places = p.places }

-- the word where the block of an index begins
abbrev pub start_of : Shape → ℕ → ℕ
start_of shape index = shape.base + shape.size * index
