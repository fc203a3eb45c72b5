-- Which pages of a segment are marked as without a class.
use Rattle.std.specs.Prelude.{◌≡◌, ◌<◌, ℕ, List, length, Option}
use Rattle.std.specs.Int.{bit_at}
use Rattle.hg_place.specs.Words.{bit_of}
use Rattle.hg_place.specs.declared.geometry.TheConstants.{SEGMENT_PAGES}
use Rattle.hg_size.specs.Runs.{is_blank}
use Rattle.hg_segment.specs.Kept.{class_at}

-- each page by a bit
pub record AreMarked (classes : List (Option ℕ)) (marks : ℕ) : Type 0 where
  pub whole : length classes ≡ SEGMENT_PAGES
  pub each :
      (page : ℕ) → page < SEGMENT_PAGES
      → bit_at marks page ≡ bit_of (is_blank (class_at classes) page)
