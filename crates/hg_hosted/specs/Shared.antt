-- That what is shared is of one service.
use Rattle.std.specs.Prelude.{◌≡◌, ℕ, List, length, slice_get, Option, None, Some}
use Rattle.atomic_table.specs.Seated.{TableId}
use Rattle.crossbeam_queue.specs.Passes.{view}
use Rattle.hg_machine.specs.Policy.{Policy}
use Rattle.hg_worker.specs.declared.state.WorkerState.{WorkerState}
use Rattle.hg_table.specs.Named.{table_of_worker}
use Rattle.hg_hosted.specs.declared.parked.Parked.{Parked}
use Rattle.hg_hosted.specs.declared.parts.Sent.{Sent}
use Rattle.hg_hosted.specs.declared.shared.Shared.{Shared}
use Rattle.hg_hosted.specs.Parking.{FitsKept, IsHome, KnowsName}
use Rattle.hg_hosted.specs.Parts.{HasLeft, HasSegments}

-- it is of the service with this policy and table, with a list for each segment
pub record AreOfService (policy : Policy) (table : TableId) (shared : Shared) : Type 0 where
  pub segments : KnowsName policy table (view shared.segments.pass).known
  pub segments_kept : FitsKept HasSegments (view shared.segments.pass).known shared.segments.kept
  pub left : KnowsName policy table (view shared.left.pass).known
  pub left_kept : FitsKept HasLeft (view shared.left.pass).known shared.left.kept
  pub all : length shared.lists.items ≡ length policy.segments

-- no list is out with this caller but those that it keeps
abbrev pub AreListsHome : List (Parked Sent) → Type 0
AreListsHome lists =
    (at : ℕ) (list : Parked Sent) → slice_get lists at ≡ Some list
    → IsHome (view list.pass) list.kept

-- no part of it is out with this caller but what it keeps
pub record AreHome (shared : Shared) : Type 0 where
  pub segments : IsHome (view shared.segments.pass) shared.segments.kept
  pub left : IsHome (view shared.left.pass) shared.left.kept
  pub lists : AreListsHome shared.lists.items

-- the table of the service that is known, if one is
abbrev pub known_table : TableId → Option WorkerState → TableId
known_table other None = other
known_table other (Some of) = table_of_worker of.seat

-- the table of the service that it is of
abbrev pub table_of_shared : Shared → TableId
table_of_shared shared = known_table shared.left.pass.table_id (view shared.left.pass).known

-- this caller keeps no list
abbrev pub AreListsSettled : List (Parked Sent) → Type 0
AreListsSettled lists =
    (at : ℕ) (list : Parked Sent) → slice_get lists at ≡ Some list → list.kept ≡ None

-- it keeps no part: each stands parked, or is with another
pub record IsSettled (shared : Shared) : Type 0 where
  pub segments : shared.segments.kept ≡ None
  pub left : shared.left.kept ≡ None
  pub lists : AreListsSettled shared.lists.items

-- the segments and the lists are with this caller only where it keeps them
pub record AreParked (shared : Shared) : Type 0 where
  pub segments : IsHome (view shared.segments.pass) shared.segments.kept
  pub lists : AreListsHome shared.lists.items
