-- Which answers are rows, and which have a line with a number.
use Rattle.std.specs.Prelude.{Bool, true, false}
use Rattle.hg_machine.specs.declared.Answer.{Answer}
use Rattle.hg_machine.specs.declared.Answer.TheVariants as answer

abbrev pub is_row : Answer → Bool
is_row (answer.Listed row) = true
is_row _ = false

-- whether its line has a number in it
abbrev pub has_number : Answer → Bool
has_number (answer.Block handle) = true
has_number (answer.Value n) = true
has_number (answer.Taken n) = true
has_number (answer.Pages n) = true
has_number (answer.Refilled segment) = true
has_number (answer.Listed row) = true
has_number _ = false
