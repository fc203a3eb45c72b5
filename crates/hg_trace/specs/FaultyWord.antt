-- What is told of the fault of a line.
use Rattle.std.specs.Prelude.{◌≡◌, ℕ, zero, suc, not, List, Option, Some, None, IsSomeAnd}
use Rattle.std.specs.Prelude.{position, slice_get}
use Rattle.hg_trace.specs.declared.fault.LineFault.{LineFault}
use Rattle.hg_trace.specs.declared.fault.LineFault.TheVariants as fault
use Rattle.hg_trace.specs.declared.wanted.Wanted.{Wanted}
use Rattle.hg_trace.specs.declared.wanted.Wanted.TheVariants as wanted
use Rattle.hg_trace.specs.declared.faulty.FaultyWord.{FaultyWord}
use Rattle.hg_trace.specs.Lines.{lines_of, before_comment, split_words, is_plain}
use Rattle.hg_trace.specs.Forms.{wrong_in, given_in, new_in}
use Rattle.hg_trace.specs.Spans.{StandsAt}

-- lines are numbered from 1
abbrev pub line_of : List ℕ → ℕ → Option (List ℕ)
line_of bytes zero = None
line_of bytes (suc n) = slice_get (lines_of bytes) n

-- the word of this number in what is read of a line is told, where this is wanted
pub record IsWord (read : List ℕ) (number : ℕ) (form : Wanted) (told : FaultyWord) : Type 0 where
  pub text : told.text.now ≡ read
  pub stands : StandsAt read number told.column told.width
  pub wanted : told.wanted ≡ form

-- the byte in this column is told
pub record IsByte (read : List ℕ) (at : ℕ) (told : FaultyWord) : Type 0 where
  pub text : told.text.now ≡ read
  pub column : told.column ≡ at
  pub width : told.width ≡ 1
  pub wanted : told.wanted ≡ wanted.Byte

abbrev pub TellsWord : List ℕ → Option (ℕ × Wanted) → Option FaultyWord → Type 0
TellsWord text None told = told ≡ None
TellsWord text (Some (number, form)) told = IsSomeAnd told (IsWord text number form)

abbrev pub TellsByte : List ℕ → Option ℕ → Option FaultyWord → Type 0
TellsByte text None told = told ≡ None
TellsByte text (Some column) told = IsSomeAnd told (IsByte text column)

-- of what is read of a line, by its fault
abbrev pub TellsOf : LineFault → List ℕ → Option FaultyWord → Type 0
TellsOf fault.Byte text told = TellsByte text (position (λ b. not (is_plain b)) text) told
TellsOf fault.Command text told = TellsWord text (wrong_in (split_words text)) told
TellsOf fault.Operand text told = TellsWord text (wrong_in (split_words text)) told
TellsOf fault.UnknownLabel text told = TellsWord text (given_in (split_words text)) told
TellsOf fault.RepeatedLabel text told = TellsWord text (new_in (split_words text)) told

abbrev pub Tells : LineFault → Option (List ℕ) → Option FaultyWord → Type 0
Tells fault None told = told ≡ None
Tells fault (Some line) told = TellsOf fault (before_comment line) told
