-- Traces that differ in written values alone, and what replays of them print.
use Rattle.std.specs.Prelude.{◌≡◌, ◌⊎◌, ◌++◌, ℕ, List, map, flat_map, codes, decimal, All}
use Rattle.hg_trace.specs.declared.line.Command.{Command}
use Rattle.hg_trace.specs.declared.line.Command.TheVariants as command
use Rattle.hg_trace.specs.declared.line.Line.{Line}
use Rattle.hg_choice.specs.WordLaws.{without_words}
use Rattle.hg_replay.specs.Replays.{Progress, Answered, Replays}

-- a command with 0 for the value that it writes
abbrev pub unwritten : Command → Command
unwritten (command.Write actor block index value) = command.Write actor block index 0
unwritten other = other

-- the worker and the command of a line, with 0 for the value that it writes, and of each line
abbrev pub unwritten_line : Line → ℕ × Command
unwritten_line line = (line.worker, unwritten line.command)

abbrev pub unwritten_lines : List Line → List (ℕ × Command)
unwritten_lines lines = map unwritten_line lines

-- two replays stand at places that are the same but for the words of blocks
pub record AreSameButWords (one other : Progress) : Type 0 where
  pub kept : without_words other.kept ≡ without_words one.kept
  pub handles : other.handles ≡ one.handles

-- the line of a word that was read
abbrev pub word_line : ℕ → List ℕ
word_line n = codes "word " ++ decimal n ++ codes "\n"

-- what two replays print for a line of this command is the same, or for a read each a word
abbrev pub IsSameButWord : Command → List ℕ → List ℕ → Type 0
IsSameButWord (command.Read actor block index) one other =
    (other ≡ one) ⊎ ((m : ℕ) × (n : ℕ) × (one ≡ word_line m) × (other ≡ word_line n))
IsSameButWord _ one other = other ≡ one

-- two lines that differ in a written value alone, answered at places that are the same but for
-- words, print the same but for a word that is read, and lead to such places
abbrev pub LinesShowValuesInWords : Type 0
LinesShowValuesInWords =
    (from begin mid next : Progress) (line other : Line) (here there : List ℕ)
    → unwritten_line other ≡ unwritten_line line → AreSameButWords from begin
    → Answered from line mid here → Answered begin other next there
    → IsSameButWord line.command here there × AreSameButWords mid next

-- a line of a trace, and what two replays print for it
pub record Printed : Type 0 where
  pub line : Line
  pub one : List ℕ
  pub other : List ℕ

-- line for line two replays of a trace print the same, but for words that are read
pub record PrintSameButWords (trace : List Line) (text instead : List ℕ) : Type 0 where
  pub printed : List Printed
  pub lines : map (λ p. p.line) printed ≡ trace
  pub one : text ≡ flat_map (λ p. p.one) printed
  pub other : instead ≡ flat_map (λ p. p.other) printed
  pub each : All (λ p. IsSameButWord p.line.command p.one p.other) printed

-- so replays of two traces that differ in written values alone print line for line the same but
-- for words that are read
abbrev pub ValuesShowInWords : Type 0
ValuesShowInWords =
    (from begin end last : Progress) (lines others : List Line) (text instead : List ℕ)
    → unwritten_lines others ≡ unwritten_lines lines → AreSameButWords from begin
    → Replays from lines end text → Replays begin others last instead
    → PrintSameButWords lines text instead × AreSameButWords end last
