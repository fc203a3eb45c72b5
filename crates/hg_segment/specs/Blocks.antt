-- The words of a block.
use Rattle.std.specs.Prelude.{◌≡◌, ◌⊎◌, ◌≢◌, ℕ, ◌+◌, ◌*◌, ◌<◌, false, List, [], Option, Some, None}
use Rattle.std.specs.Prelude.{slice_range}
use Rattle.hg_place.specs.declared.geometry.TheConstants.{SEGMENT_PAGES, PAGE_PLACES, PAGE_WORDS}
use Rattle.hg_place.specs.declared.standing.Standing.{Standing}
use Rattle.hg_place.specs.Standings.{standing_at, is_home}
use Rattle.hg_segment.specs.Kept.{slot, class_at}

-- the word of its segment at which a block begins
abbrev pub block_start : ℕ → ℕ → ℕ → ℕ
block_start page size index = page * PAGE_WORDS + size * index

-- by page and index, where the page has a class
abbrev pub block_of_class : List ℕ → ℕ → ℕ → Option ℕ → List ℕ
block_of_class words page index None = []
block_of_class words page index (Some size) =
    slice_range words (block_start page size index) (block_start page size index + size)

abbrev pub block_at : List ℕ → List (Option ℕ) → ℕ → ℕ → List ℕ
block_at words classes page index = block_of_class words page index (class_at classes page)

-- each open place of these records but one has the words in its block that it had
abbrev pub KeepsOtherBlocks : List Standing → List (Option ℕ) → ℕ → ℕ → List ℕ → List ℕ → Type 0
KeepsOtherBlocks records classes page index old new =
    (other at : ℕ) → other < SEGMENT_PAGES → at < PAGE_PLACES
    → is_home (standing_at records (slot other at)) ≡ false
    → (other ≢ page) ⊎ (at ≢ index)
    → block_at new classes other at ≡ block_at old classes other at

-- each open place has
abbrev pub KeepsBlocks : List Standing → List (Option ℕ) → List ℕ → List ℕ → Type 0
KeepsBlocks records classes old new =
    (other at : ℕ) → other < SEGMENT_PAGES → at < PAGE_PLACES
    → is_home (standing_at records (slot other at)) ≡ false
    → block_at new classes other at ≡ block_at old classes other at
