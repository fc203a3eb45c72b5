-- Words that are written into a block one after another.
use Rattle.std.specs.Prelude.{◌≡◌, ℕ, ◌+◌, List, [], ◌∷◌, Option, length, slice_set}
use Rattle.hg_place.specs.declared.standing.Standing.{Standing}
use Rattle.hg_segment.specs.Blocks.{block_at, KeepsOtherBlocks}

module _ (records : List Standing) (classes : List (Option ℕ)) (page index : ℕ) where
  -- one word of the block is another; the other open blocks of these records have their words
  pub record IsWordWritten (at value : ℕ) (old new : List ℕ) : Type 0 where
    pub written :
        block_at new classes page index ≡ slice_set (block_at old classes page index) at value
    pub others : KeepsOtherBlocks records classes page index old new
    pub all : length new ≡ length old

  -- these words are written from one on
  abbrev pub AreWordsWritten : ℕ → List ℕ → List ℕ → List ℕ → Type 0
  AreWordsWritten at [] old new = new ≡ old
  AreWordsWritten at (value ∷ values) old new =
      (mid : List ℕ) × IsWordWritten at value old mid × AreWordsWritten (at + 1) values mid new
