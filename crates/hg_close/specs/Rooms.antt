-- Room in which a service closes.
use Rattle.std.specs.Prelude.{◌≡◌, ℕ, ◌<◌, List, [], Option, Some, None, length}
use Rattle.std.specs.Prelude.{slice_index_or}
use Rattle.std.specs.List.{AllByRecursion}
use Rattle.hg_place.specs.declared.plain.PlainWords.{PlainWords}
use Rattle.hg_audit.specs.Handed.{core_in, IsComplete}
use Rattle.hg_audit.specs.Left.{AreLeft}
use Rattle.hg_close.specs.declared.room.CloseRoom.{CloseRoom}

-- there are slot words for the segment of a number
abbrev pub HasWords : List (Option PlainWords) → ℕ → Type 0
HasWords words segment =
    (one : PlainWords) × (slice_index_or words segment None ≡ Some one) × (one.segment ≡ segment)

-- parts of a core whose workers hold no segment and have nothing in hand
pub record IsRoom (room : CloseRoom) : Type 0 where
  pub complete : IsComplete room.parts
  pub heaps : AllByRecursion (λ heap. heap.segments ≡ []) room.parts.heaps.items
  pub hands : (worker : ℕ) → slice_index_or room.parts.hands.items worker None ≡ None
  pub audited : room.audit.segments ≡ length room.parts.policy.segments

-- no segment has come, and there are slot words for each
pub record IsUnfilled (room : CloseRoom) : Type 0 where
  pub room_is : IsRoom room
  pub orphans : room.parts.pool.orphans ≡ []
  pub fresh : room.parts.pool.fresh ≡ []
  pub words :
      (segment : ℕ) → segment < length room.parts.policy.segments
      → HasWords room.words.items segment

-- each segment of the policy has come, as the policy gives it
pub record IsFilled (room : CloseRoom) : Type 0 where
  pub room_is : IsRoom room
  pub left : AreLeft (core_in room.parts)
