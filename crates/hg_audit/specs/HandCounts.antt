-- In how many hands places are, and what an audit knows when it asks for places.
use Rattle.std.specs.Prelude.{◌≡◌, ℕ, ◌<◌, ◌*◌, ◌+◌, List, Option, None, Some, length, count_by}
use Rattle.std.specs.Prelude.{slice_index, slice_set}
use Rattle.hg_place.specs.declared.geometry.TheConstants.{SEGMENT_PLACES}
use Rattle.hg_machine.specs.Holders.{is_number}
use Rattle.hg_parts.specs.Rights.{AreSegmentsRight, AreRemotesRight}
use Rattle.hg_audit.specs.Handed.{parts_in, hands_in, IsComplete}
use Rattle.hg_audit.specs.declared.parts.Parts.{Parts as Handed}

-- a byte for each place of so many segments tells how many of the hands have that place
pub record AreHandCounts (hands : List (Option ℕ)) (segments : ℕ) (counts : List ℕ)
    : Type 0 where
  pub all : length counts ≡ segments * SEGMENT_PLACES
  pub each :
      (place : ℕ) → place < segments * SEGMENT_PLACES
      → slice_index counts place ≡ count_by (is_number place) hands

-- one hand more is counted; a place that has no byte isn't
abbrev pub with_hand : List ℕ → Option ℕ → List ℕ
with_hand counts None = counts
with_hand counts (Some place) = slice_set counts place (slice_index counts place + 1)

-- what an audit knows when it asks for places of a segment: the parts are complete, segments and
-- remote lists keep what they promise, the policy has the segment, and the hands are counted
pub record IsAsked (handed : Handed) (counts : List ℕ) (segment : ℕ) : Type 0 where
  pub complete : IsComplete handed
  pub segments : AreSegmentsRight (parts_in handed)
  pub remotes : AreRemotesRight (parts_in handed)
  pub within : segment < length handed.policy.segments
  pub counts_are :
      AreHandCounts (hands_in handed.hands.items) (length handed.policy.segments) counts
