-- A text of a document in one line. That it writes out more than control characters, and why, is
-- decided in docs/DECISIONS.md ('A control character in a key or name ..').
use Rattle.std.specs.Prelude.{◌==◌, ◌&&◌, ◌||◌, ◌/◌, ◌%◌, ◌++◌, ℕ, Bool, List, [], ◌∷◌, codes, slice_index}
use Rattle.std.specs.Prelude.{nat_le}
use Rattle.std.specs.Prelude.{if◌then◌else◌}
use Rattle.std.specs.List.{flat_map}
use Rattle.std.specs.Char.{is_control, encode_utf8}
use Rattle.std.specs.Str.{chars}

-- capitals from ten on
abbrev pub hex_digit : ℕ → ℕ
hex_digit n = slice_index (codes "0123456789ABCDEF") n

-- the marks of direction, U+061C, U+200E and U+200F, the separators of lines and paragraphs with the
-- embeddings and overrides, U+2028 to U+202E, and the isolates, U+2066 to U+2069
abbrev pub is_mark : ℕ → Bool
is_mark c =
    (c == 1564 || c == 8206 || c == 8207)
    || (nat_le 8232 c && nat_le c 8238) || (nat_le 8294 c && nat_le c 8297)

abbrev pub is_written_out : ℕ → Bool
is_written_out c = is_mark c || is_control c

-- four digits of a number below 65,536
abbrev pub four_digits : ℕ → List ℕ
four_digits c =
    hex_digit (c / 4096) ∷ hex_digit (c / 256 % 16) ∷ hex_digit (c / 16 % 16) ∷ hex_digit (c % 16)
    ∷ []

-- what is written out is written as TOML's basic strings write it, and any other character stays
abbrev pub written : ℕ → List ℕ
written c =
    if c == 8 then codes "\\b" else
    (if c == 9 then codes "\\t" else
    (if c == 10 then codes "\\n" else
    (if c == 12 then codes "\\f" else
    (if c == 13 then codes "\\r" else
    (if is_written_out c then codes "\\u" ++ four_digits c else encode_utf8 c)))))

abbrev pub one_line : List ℕ → List ℕ
one_line text = flat_map written (chars text)
