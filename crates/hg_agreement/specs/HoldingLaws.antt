-- Laws: what a view tells of blocks is what the segment has, and right segments make a right view.
use Rattle.std.specs.Prelude.{◌≡◌, ℕ, ◌<◌, ◌≤◌, true, false, List, [], length, Option, Some}
use Rattle.std.specs.Prelude.{Contains}
use Rattle.hg_place.specs.declared.geometry.TheConstants.{PAGE_PLACES, SEGMENT_PAGES, SEGMENT_WORDS}
use Rattle.hg_size.specs.Runs.{AreRuns}
use Rattle.hg_size.specs.Sizes.{sizes}
use Rattle.hg_place.specs.Standings.{standing_at, standing_generation, is_home}
use Rattle.hg_segment.specs.Kept.{slot}
use Rattle.hg_segment.specs.Blocks.{block_at}
use Rattle.hg_segment.specs.Right.{IsBlockPlace}
use Rattle.hg_machine.specs.Policy.{Policy}
use Rattle.hg_machine.specs.SoundPolicy.{IsSoundPolicy}
use Rattle.hg_agreement.specs.Holdings.{Holding, block_of, class_of, holding_of, view_of}
use Rattle.hg_agreement.specs.Witness.{IsHeapView}

-- of an open place by page and index those of its block, at home none
pub record AreBlocks (h : Holding) (page index : ℕ) : Type 0 where
  pub home :
      is_home (standing_at h.standings (slot page index)) ≡ true → block_of h (slot page index) ≡ []
  pub out :
      is_home (standing_at h.standings (slot page index)) ≡ false
      → block_of h (slot page index) ≡ block_at h.words h.classes page index

abbrev pub BlocksAreTheSegments : Type 0
BlocksAreTheSegments =
    (h : Holding) (page index : ℕ) → index < PAGE_PLACES → AreBlocks h page index

-- a segment of the policy keeps sizes as classes, of blocks that end in it and of no covered page,
-- generations up to the greatest, and as open places those that were given out, at block places of
-- its pages
pub record IsHoldingRight (policy : Policy) (h : Holding) : Type 0 where
  pub number : h.number < length policy.segments
  pub sizes : (page size : ℕ) → class_of h page ≡ Some size → Contains sizes size
  pub runs : AreRuns (class_of h)
  pub whole : length h.words ≡ SEGMENT_WORDS
  pub bounded :
      (at : ℕ) → standing_generation (standing_at h.standings at) ≤ policy.max_generation
  pub given_out :
      (at : ℕ) → is_home (standing_at h.standings at) ≡ false
      → 1 ≤ standing_generation (standing_at h.standings at)
  pub placed :
      (page index : ℕ) → page < SEGMENT_PAGES → index < PAGE_PLACES
      → is_home (standing_at h.standings (slot page index)) ≡ false
      → IsBlockPlace (class_of h page) index

-- then what a worker with such segments has is as the witness state wants it
abbrev pub RightHoldingsAreHeaps : Type 0
RightHoldingsAreHeaps =
    (policy : Policy) (worker : ℕ) (hand : Option ℕ) (generation : ℕ) (holdings : List Holding)
    → IsSoundPolicy policy → worker < policy.workers
    → ((segment : ℕ) (h : Holding) → holding_of holdings segment ≡ Some h → IsHoldingRight policy h)
    → IsHeapView (view_of policy worker hand generation holdings)
