-- Where a name ends in a text.
use Rattle.std.specs.Prelude.{ℕ, Bool, true, false, ◌&&◌, List, [], ◌∷◌, nat_lt, length}
use Rattle.hg_policy_text.specs.NameForm.{is_lower}
use Rattle.hg_trace.specs.Lines.{is_blank}

-- whether a word ends before this: at a blank, or where nothing more stands
abbrev pub ends_word : List ℕ → Bool
ends_word [] = true
ends_word (b ∷ bs) = is_blank b

-- 1 to 16 bytes, the first a letter
abbrev pub fits_name : List ℕ → Bool
fits_name [] = false
fits_name (b ∷ bs) = is_lower b && nat_lt (length bs) 16
