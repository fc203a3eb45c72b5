-- The words and records of a segment that one thread has for itself.
use Rattle.std.specs.Prelude.{ℕ, List}
use Rattle.hg_place.specs.declared.standing.Standing.{Standing}
use Rattle.hg_place.specs.declared.plain.PlainWords.{PlainWords}
use Rattle.hg_place.specs.Cells.{word_in, standing_in, seen}

abbrev pub plain_words : PlainWords → List ℕ
plain_words s = seen word_in s.cells

abbrev pub plain_records : PlainWords → List Standing
plain_records s = seen standing_in s.cells
