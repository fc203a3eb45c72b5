-- The pieces of a picture, between its numbers and names: of a map, and of an SVG file.
use Rattle.std.specs.Prelude.{ℕ, List, codes}
use Rattle.hg_state.specs.declared.pieces.Piece.{Piece}
use Rattle.hg_state.specs.declared.pieces.Piece.TheVariants as piece

unfoldable pub text_of : Piece → List ℕ
text_of piece.MapPages =
    codes "pages: . no class, - all free, + in part, # none free, = goes with the page before\n"
text_of piece.MapPlaces = codes "places, behind the bytes of a block: . free, # live, o parted, * worn\n"
text_of piece.Segment = codes "segment "
text_of piece.PageOf = codes "page "
text_of piece.PageDot = codes "."
text_of piece.Gap = codes " "
text_of piece.Left = codes " held by nobody\n"
text_of piece.LineEnd = codes "\n"
text_of piece.SquareAt = codes "<rect x=\""
text_of piece.SquareStyle = codes "\" width=\"1\" height=\"1\" class=\""
text_of piece.SquareOwner = codes "\" width=\"1\" height=\"1\" class=\"t"
text_of piece.SquareEnd = codes "\"/>\n"
text_of piece.PaleEnd = codes " p\"/>\n"
text_of piece.LabelAt = codes "<text x=\"8\" y=\""
text_of piece.Label = codes "\">"
text_of piece.RowAt = codes "</text>\n<rect x=\"60\" y=\""
text_of piece.LeftRowEnd = codes "\" width=\"956\" height=\"22\" class=\"l\"/>\n"
text_of piece.RowEnd = codes "\" width=\"956\" height=\"22\" class=\"u\"/>\n"
text_of piece.PageAt = codes "<svg x=\""
text_of piece.PageDown = codes "\" y=\""
text_of piece.PageWide = codes "\" width=\""
text_of piece.PageScale = codes "\" height=\"22\" preserveAspectRatio=\"none\" viewBox=\"0 0 "
text_of piece.PageWidth = codes " 1\">\n<rect width=\""
text_of piece.PageFront = codes "\" height=\"1\" class=\"f\"/>\n"
text_of piece.PageBack = codes "</svg>\n"
text_of piece.Head = codes "<svg xmlns=\"http://www.w3.org/2000/svg\" width=\"1030\" height=\""
text_of piece.Style =
    codes "\" font-family=\"monospace\" font-size=\"12\">\n<style>.f{fill:#e6e6e6}.u{fill:none;stroke:#bbb}.l{fill:none;stroke:#bbb;stroke-width:3;stroke-dasharray:4}.w{fill:#000}.p{opacity:.4}</style>\n<rect width=\"100%\" height=\"100%\" fill=\"#fff\"/>\n<text x=\"60\" y=\""
text_of piece.Meaning =
    codes "\">a colour a tenant; pale: parted; black: worn; grey: free; white: no class; dashed: held by nobody</text>\n"
text_of piece.Colour = codes "<style>.t"
text_of piece.Hue = codes "{fill:hsl("
text_of piece.Lightness = codes ",65%,"
text_of piece.ColourAt = codes "%)}</style>\n<rect x=\"60\" y=\""
text_of piece.ColourOwner = codes "\" width=\"14\" height=\"14\" class=\"t"
text_of piece.NameAt = codes "\"/>\n<text x=\"80\" y=\""
text_of piece.NameEnd = codes "</text>\n"
