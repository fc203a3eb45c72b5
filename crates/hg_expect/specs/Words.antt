-- Words of answers, and what is shown of a line.
use Rattle.std.specs.Prelude.{ℕ, ◌==◌, ◌||◌, ◌&&◌, Bool, true, false, not, nat_lt, List, [], ◌∷◌, ◌++◌}
use Rattle.std.specs.Prelude.{codes, nat_eq, if◌then◌else◌}
use Rattle.std.specs.List.{starts_with}
use Rattle.hg_trace.specs.Lines.{ends_line, is_blank, is_hash}

-- a blank or a line's end
abbrev pub is_gap : ℕ → Bool
is_gap b = is_blank b || ends_line b

-- a byte as words are written, within a word or before one
abbrev pub word_part : Bool → ℕ → List ℕ
word_part within b = if is_gap b then [] else (if within then b ∷ [] else 32 ∷ b ∷ [])

-- the words of a text, each behind a space, where the first byte stands within a word or not
abbrev pub words_from : Bool → List ℕ → List ℕ
words_from within [] = []
words_from within (b ∷ bs) = word_part within b ++ words_from (not (is_gap b)) bs

abbrev pub words : List ℕ → List ℕ
words text = words_from false text

-- the line so far and a byte more, behind an end or not
abbrev pub line_with : List ℕ → Bool → ℕ → List ℕ
line_with line ended b = if ends_line b then line else (if ended then [] else line) ++ b ∷ []

-- the last line that isn't empty, where this line stands before
abbrev pub last_from : List ℕ → Bool → List ℕ → List ℕ
last_from line ended [] = line
last_from line ended (b ∷ bs) = last_from (line_with line ended b) (ends_line b) bs

abbrev pub last_line : List ℕ → List ℕ
last_line text = last_from [] true text

-- a byte as it is shown: for a control byte other than a tab a question mark
abbrev pub shown : ℕ → ℕ
shown b = if (nat_lt b 32 && not (b == 9)) || b == 127 then 63 else b

-- `=>` stands behind blanks alone
abbrev pub begins_answer : List ℕ → Bool
begins_answer [] = false
begins_answer (b ∷ bs) =
    if is_gap b then begins_answer bs else starts_with nat_eq (b ∷ bs) (codes "=>")

-- behind some `#` of a line stands a text like an answer
abbrev pub is_slip : List ℕ → Bool
is_slip [] = false
is_slip (b ∷ bs) = (is_hash b && begins_answer bs) || is_slip bs
