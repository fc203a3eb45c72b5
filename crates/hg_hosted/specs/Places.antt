-- Where the ways of a caller lead.
use Rattle.std.specs.Prelude.{◌≡◌, map}
use Rattle.atomic_table.specs.Seated.{TableId}
use Rattle.hg_hosted.specs.declared.parked.Parked.{Parked}
use Rattle.hg_hosted.specs.declared.parts.Sent.{Sent}
use Rattle.hg_hosted.specs.declared.shared.Shared.{Shared}

-- where a list is parked
abbrev pub list_place : Parked Sent → TableId
list_place list = list.pass.table_id

-- two callers have ways to the same segments, to the same list of each segment, and to where the same
-- workers leave
pub record HaveSamePlaces (one other : Shared) : Type 0 where
  pub segments : other.segments.pass.table_id ≡ one.segments.pass.table_id
  pub lists : map list_place other.lists.items ≡ map list_place one.lists.items
  pub left : other.left.pass.table_id ≡ one.left.pass.table_id
