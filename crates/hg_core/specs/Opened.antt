-- What a core opens with.
use Rattle.std.specs.Prelude.{◌≡◌, ℕ, [], None}
use Rattle.std.specs.List.{range_with_len, AllByRecursion}
use Rattle.hg_place.specs.declared.plain.PlainWords.{PlainWords}
use Rattle.hg_place.specs.declared.standing.Standing.TheVariants.{Home}
use Rattle.hg_place.specs.Plain.{plain_records}
use Rattle.hg_place.specs.Standings.{standing_at}
use Rattle.hg_segment.specs.Kept.{Kept, class_at}
use Rattle.hg_segment.specs.Parted.{plain_number}
use Rattle.hg_pool.specs.Pooled.{Pooled, numbers}
use Rattle.hg_machine.specs.Policy.{Policy}
use Rattle.hg_agreement.specs.Parts.{plain_from}
use Rattle.hg_parts.specs.Rights.{IsSegmentRight}

-- a segment of the policy's of whose places none was ever given out, and whose pages have no class
pub record IsUnusedOne (policy : Policy) (one : Kept PlainWords) : Type 0 where
  pub right : IsSegmentRight policy (plain_from one)
  pub home : (at : ℕ) → standing_at (plain_records one.slots) at ≡ Home 0
  pub classes : (page : ℕ) → class_at one.classes page ≡ None

-- the first so many segments of the policy, each fresh
pub record IsFreshPool (policy : Policy) (count : ℕ) (pool : Pooled PlainWords) : Type 0 where
  pub orphans : pool.orphans ≡ []
  pub numbers : numbers plain_number pool.fresh ≡ range_with_len 0 count
  pub each : AllByRecursion (IsUnusedOne policy) pool.fresh
