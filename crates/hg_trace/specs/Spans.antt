-- Where words stand in a text.
use Rattle.std.specs.Prelude.{◌≡◌, ℕ, ◌+◌, ◌≤◌, List, length, take, drop}
use Rattle.hg_trace.specs.Lines.{split_words}
use Rattle.hg_trace.specs.Stored.{named}

-- the word of this number has so many bytes from that column on, and before them stand the words
-- before it; where there are no more words than that, no byte at the text's end is meant
pub record StandsAt (text : List ℕ) (number column width : ℕ) : Type 0 where
  pub within : column + width ≤ length text
  pub before : split_words (take column text) ≡ take number (split_words text)
  pub word : take width (drop column text) ≡ named (split_words text) number
  pub missing : length (split_words text) ≤ number → column ≡ length text
