-- Lines, what is read of each, and its words.
use Rattle.std.specs.Prelude.{ℕ, ◌==◌, ◌||◌, ◌&&◌, Bool, true, false, nat_le, List, [], ◌∷◌, filter}
use Rattle.std.specs.Prelude.{if◌then◌else◌}
use Rattle.std.specs.List.{slice_split, onto_first, before_first}

abbrev pub ends_line : ℕ → Bool
ends_line b = b == 10

-- the lines, each with the byte at its end, which the last may lack
abbrev pub lines_of : List ℕ → List (List ℕ)
lines_of [] = []
lines_of (b ∷ bs) = if ends_line b then (b ∷ []) ∷ lines_of bs else onto_first b (lines_of bs)

-- a line's end, or the `#` from which on it is ignored
abbrev pub ends_text : ℕ → Bool
ends_text b = ends_line b || b == 35

-- what is read of a line
abbrev pub before_comment : List ℕ → List ℕ
before_comment line = before_first ends_text line

-- space, tab and the byte 0D
abbrev pub is_blank : ℕ → Bool
is_blank b = b == 32 || (b == 9 || b == 13)

-- a blank, or a byte from 21 to 7E (hexadecimal)
abbrev pub is_allowed : ℕ → Bool
is_allowed b = is_blank b || (nat_le 0x21 b && nat_le b 0x7E)

-- a byte that is read wherever it stands, or a line's end
abbrev pub is_plain : ℕ → Bool
is_plain b = is_allowed b || ends_line b

-- the `#` of a comment
abbrev pub is_hash : ℕ → Bool
is_hash b = b == 35

abbrev pub is_some_word : List ℕ → Bool
is_some_word [] = false
is_some_word (b ∷ bs) = true

-- what stands between the blanks
abbrev pub split_words : List ℕ → List (List ℕ)
split_words text = filter is_some_word (slice_split is_blank text)
