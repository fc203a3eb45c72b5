-- Bytes of a block, as the Reads and Writes of its words that they are.
use Rattle.std.specs.Prelude.{◌≡◌, ◌≢◌, ◌⊎◌, ℕ, zero, suc, ◌+◌, ◌/◌, ◌%◌, ◌<◌, min}
use Rattle.std.specs.Prelude.{List, length, take, drop, MatchOption}
use Rattle.std.specs.Int.{to_le_bytes, from_le_bytes, w64}
use Rattle.hg_machine.specs.declared.Answer.{Answer}
use Rattle.hg_machine.specs.declared.Answer.TheVariants as answer
use Rattle.hg_bytes.specs.Pieces.{start_in, before, words_for, piece, laid}
use Rattle.hg_bytes.specs.declared.progress.Progress.{Progress}

-- the index of the word that is so many behind that of the first byte. What is more than 32 bits
-- hold is the most that they do, which no block has
abbrev pub word_index : ℕ → ℕ → ℕ
word_index first many = min (first / 8 + many) 4294967295

-- reads and writes: what one call does, by whom it is asked
module _ {S By : Type 0} (reads : By → ℕ → Answer → S → S → Type 0)
    (writes : By → ℕ → ℕ → Answer → S → S → Type 0) (by : By) where
  -- Bytes are put into a word: eight are its Write; of fewer it is read before, and those beside
  -- them are written as they were
  pub record Puts (index start : ℕ) (bytes : List ℕ) (old new : S) : Type 0 where
    pub whole : length bytes ≡ 8 → writes by index (from_le_bytes w64 bytes) answer.Done old new
    pub part :
        length bytes < 8 → (word : ℕ) × (mid : S)
        × reads by index (answer.Value word) old mid
        × writes by index (from_le_bytes w64 (laid start bytes (to_le_bytes w64 word)))
        answer.Done mid new

  -- one of these calls is refused: the Read shows no word, or the Write isn't done
  pub record PutsNot (index start : ℕ) (bytes : List ℕ) (said : Answer) (old new : S)
      : Type 0 where
    pub whole :
        length bytes ≡ 8
        → (said ≢ answer.Done) × writes by index (from_le_bytes w64 bytes) said old new
    pub part :
        length bytes < 8
        → (((word : ℕ) → said ≢ answer.Value word) × reads by index said old new)
        ⊎ ((word : ℕ) × (mid : S) × (said ≢ answer.Done)
        × reads by index (answer.Value word) old mid
        × writes by index (from_le_bytes w64 (laid start bytes (to_le_bytes w64 word)))
        said mid new)

-- first: the offset of the first byte
module _ {S By : Type 0} (reads : By → ℕ → Answer → S → S → Type 0)
    (writes : By → ℕ → ℕ → Answer → S → S → Type 0) (by : By) (first : ℕ) where
  -- so many words are read, one after another, and what is told of each is what lies there in it
  abbrev pub ReadsEach : List ℕ → ℕ → S → S → Type 0
  ReadsEach told zero old new = new ≡ old
  ReadsEach told (suc k) old new =
      (mid : S) × (word : ℕ)
      × ReadsEach told k old mid
      × reads by (word_index first k) (answer.Value word) mid new
      × (piece (first % 8) told k
      ≡ take (length (piece (first % 8) told k))
      (drop (start_in (first % 8) k) (to_le_bytes w64 word)))

  -- The bytes that were read stand in front in the room, and what is behind them is as it was. They
  -- are all, or the Read of the next word is refused
  pub record ReadsBytes (room : List ℕ) (made : Progress) (told : List ℕ) (old new : S)
      : Type 0 where
    pub many : ℕ
    pub mid : S
    pub each : ReadsEach told many old mid
    pub done : made.done ≡ min (length room) (before (first % 8) many)
    pub all : length told ≡ length room
    pub rest : drop made.done told ≡ drop made.done room
    pub end :
        MatchOption made.refused
        ((many ≡ words_for (first % 8) (length room)) × (new ≡ mid))
        (λ said. (many < words_for (first % 8) (length room))
        × ((word : ℕ) → said ≢ answer.Value word)
        × reads by (word_index first many) said mid new)

  -- into so many words the bytes are put that lie there, one after another
  abbrev pub PutsEach : List ℕ → ℕ → S → S → Type 0
  PutsEach bytes zero old new = new ≡ old
  PutsEach bytes (suc k) old new =
      (mid : S)
      × PutsEach bytes k old mid
      × Puts reads writes by (word_index first k) (start_in (first % 8) k)
      (piece (first % 8) bytes k) mid new

  -- the bytes that were written are all, or the next word's Read or Write is refused
  pub record WritesBytes (bytes : List ℕ) (made : Progress) (old new : S) : Type 0 where
    pub many : ℕ
    pub mid : S
    pub each : PutsEach bytes many old mid
    pub done : made.done ≡ min (length bytes) (before (first % 8) many)
    pub end :
        MatchOption made.refused
        ((many ≡ words_for (first % 8) (length bytes)) × (new ≡ mid))
        (λ said. (many < words_for (first % 8) (length bytes))
        × PutsNot reads writes by (word_index first many) (start_in (first % 8) many)
        (piece (first % 8) bytes many) said mid new)
