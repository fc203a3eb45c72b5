-- What each part of a picture begins and ends with, and what is drawn of a place: of a map a character,
-- of an SVG file a square of one by one, where the place isn't free.
use Rattle.std.specs.Prelude.{ℕ, ◌+◌, ◌-◌, ◌*◌, ◌/◌, ◌%◌, ◌==◌, ◌++◌, Bool, List, [], codes, decimal}
use Rattle.std.specs.Prelude.{Option, Some, None, is_none, length}
use Rattle.std.specs.Prelude.{if◌then◌else◌}
use Rattle.std.specs.List.{flat_map}
use Rattle.hg_place.specs.declared.geometry.TheConstants.{WORD_BYTES}
use Rattle.hg_size.specs.Sizes.{pages_of, places_of}
use Rattle.hg_machine.specs.Policy.{Policy}
use Rattle.hg_machine.specs.State.{State, holder_at}
use Rattle.hg_core.specs.Held.{worker_in}
use Rattle.hg_core.specs.PageClasses.{page_class}
use Rattle.hg_show.specs.Parts.{name_of}
use Rattle.hg_state.specs.Pages.{free_of, is_behind, pages_in}
use Rattle.hg_state.specs.Pieces.{text_of}
use Rattle.hg_state.specs.declared.cell.Cell.{Cell}
use Rattle.hg_state.specs.declared.cell.Cell.TheVariants as cell
use Rattle.hg_state.specs.declared.form.Drawing.{Drawing}
use Rattle.hg_state.specs.declared.form.Drawing.TheVariants as drawing
use Rattle.hg_state.specs.declared.pieces.Piece.{Piece}
use Rattle.hg_state.specs.declared.pieces.Piece.TheVariants as piece

-- what is drawn of a place
abbrev pub mark_of : Cell → List ℕ
mark_of (cell.Live owner) = codes "#"
mark_of (cell.Parted owner) = codes "o"
mark_of cell.Worn = codes "*"
mark_of cell.Free = codes "."

-- a square at this place, with these classes of style
unfoldable pub square : ℕ → List ℕ → List ℕ
square index style =
    text_of piece.SquareAt ++ decimal index ++ text_of piece.SquareStyle ++ style
    ++ text_of piece.SquareEnd

unfoldable pub owned_square : ℕ → ℕ → Piece → List ℕ
owned_square index owner end =
    text_of piece.SquareAt ++ decimal index ++ text_of piece.SquareOwner ++ decimal owner
    ++ text_of end

-- a live block has its tenant's colour, and a parted one the same, paler
abbrev pub square_of : ℕ → Cell → List ℕ
square_of index (cell.Live owner) = owned_square index owner piece.SquareEnd
square_of index (cell.Parted owner) = owned_square index owner piece.PaleEnd
square_of index cell.Worn = square index (codes "w")
square_of index cell.Free = []

abbrev pub cell_shape : Drawing → ℕ → Cell → List ℕ
cell_shape drawing.Map index c = mark_of c
cell_shape drawing.Svg index c = square_of index c

-- a page of a class in its segment's row: with none of its places free, with all free, or between
abbrev pub mark_by : ℕ → ℕ → List ℕ
mark_by places free =
    if free == 0 then codes "#" else (if free == places then codes "-" else codes "+")

abbrev pub class_mark : State → ℕ → ℕ → Option ℕ → List ℕ
class_mark s segment page None = codes "."
class_mark s segment page (Some class) =
    mark_by (places_of class) (free_of s segment page class)

-- and one that lies behind the first of a block of several pages
unfoldable pub page_mark : State → ℕ → ℕ → List ℕ
page_mark s segment page =
    if is_behind s segment page
    then codes "="
    else class_mark s segment page (page_class s segment page)

-- nobody holds the segment
abbrev pub is_left : State → ℕ → Bool
is_left s segment = is_none (worker_in (holder_at s segment))

abbrev pub map_row_end : Bool → Piece
map_row_end is_left = if is_left then piece.Left else piece.LineEnd

unfoldable pub map_row : State → ℕ → List ℕ
map_row s segment =
    text_of piece.Segment ++ decimal segment
    ++ text_of piece.Gap ++ flat_map (page_mark s segment) pages_in
    ++ text_of (map_row_end (is_left s segment))

abbrev pub row_end : Bool → Piece
row_end is_left = if is_left then piece.LeftRowEnd else piece.RowEnd

unfoldable pub svg_row : ℕ → Bool → List ℕ
svg_row segment is_left =
    text_of piece.LabelAt ++ decimal (25 + 26 * segment) ++ text_of piece.Label ++ decimal segment
    ++ text_of piece.RowAt ++ decimal (10 + 26 * segment) ++ text_of (row_end is_left)

abbrev pub row_shape : Drawing → State → ℕ → List ℕ
row_shape drawing.Map s segment = map_row s segment
row_shape drawing.Svg s segment = svg_row segment (is_left s segment)

-- a page of a class, before its places: as wide as all pages that its block lies over
unfoldable pub map_page : ℕ → ℕ → ℕ → List ℕ
map_page segment page class =
    text_of piece.PageOf ++ decimal segment ++ text_of piece.PageDot ++ decimal page
    ++ text_of piece.Gap ++ decimal (WORD_BYTES * class) ++ text_of piece.Gap

unfoldable pub svg_page : ℕ → ℕ → ℕ → List ℕ
svg_page segment page class =
    text_of piece.PageAt ++ decimal (60 + 60 * page)
    ++ text_of piece.PageDown ++ decimal (10 + 26 * segment)
    ++ text_of piece.PageWide ++ decimal (60 * pages_of class - 4)
    ++ text_of piece.PageScale ++ decimal (places_of class)
    ++ text_of piece.PageWidth ++ decimal (places_of class) ++ text_of piece.PageFront

abbrev pub page_front : Drawing → ℕ → ℕ → ℕ → List ℕ
page_front drawing.Map segment page class = map_page segment page class
page_front drawing.Svg segment page class = svg_page segment page class

-- and behind those
abbrev pub page_back : Drawing → List ℕ
page_back drawing.Map = codes "\n"
page_back drawing.Svg = text_of piece.PageBack

-- what a picture begins with: what its marks mean
unfoldable pub svg_head : Policy → List ℕ
svg_head policy =
    text_of piece.Head
    ++ decimal (60 + 26 * length policy.segments + 20 * length policy.tenants)
    ++ text_of piece.Style ++ decimal (30 + 26 * length policy.segments)
    ++ text_of piece.Meaning

abbrev pub head_shape : Drawing → Policy → List ℕ
head_shape drawing.Map policy = text_of piece.MapPages ++ text_of piece.MapPlaces
head_shape drawing.Svg policy = svg_head policy

-- a tenant's colour, and its name
unfoldable pub svg_colour : ℕ → List ℕ
svg_colour tenant =
    text_of piece.Colour ++ decimal tenant ++ text_of piece.Hue ++ decimal (tenant * 137 % 360)
    ++ text_of piece.Lightness ++ decimal (40 + 15 * (tenant / 21))

unfoldable pub svg_name : Policy → ℕ → List ℕ
svg_name policy tenant =
    text_of piece.ColourAt ++ decimal (40 + 26 * length policy.segments + 20 * tenant)
    ++ text_of piece.ColourOwner ++ decimal tenant
    ++ text_of piece.NameAt ++ decimal (52 + 26 * length policy.segments + 20 * tenant)
    ++ text_of piece.Label ++ name_of policy tenant ++ text_of piece.NameEnd

unfoldable pub svg_tenant : Policy → ℕ → List ℕ
svg_tenant policy tenant = svg_colour tenant ++ svg_name policy tenant

abbrev pub tenant_shape : Drawing → Policy → ℕ → List ℕ
tenant_shape drawing.Map policy tenant = []
tenant_shape drawing.Svg policy tenant = svg_tenant policy tenant

abbrev pub picture_back : Drawing → List ℕ
picture_back drawing.Map = []
picture_back drawing.Svg = text_of piece.PageBack
