-- What a service begins with.
use Rattle.std.specs.Prelude.{◌≡◌, ◌<◌, ℕ, List, [], None, Some, slice_get, slice_index_or, length}
use Rattle.std.specs.List.{range_with_len, AllByRecursion}
use Rattle.hg_place.specs.Standings.{standing_at}
use Rattle.hg_place.specs.declared.standing.Standing.TheVariants.{Home}
use Rattle.hg_machine.specs.Policy.{Policy}
use Rattle.hg_segment.specs.Kept.{Kept, class_at}
use Rattle.hg_heap.specs.Policies.{IsOf}
use Rattle.hg_pool.specs.Pooled.{Pooled, numbers}
use Rattle.hg_table.specs.Seats.{KnowsNothing, part_on}
use Rattle.hg_table.specs.declared.segment.SegmentSeat.{SegmentSeat}
use Rattle.hg_table.specs.declared.segment.UnnamedSegment.{UnnamedSegment}
use Rattle.hg_remote.specs.Remote.{nothing_sent}
use Rattle.hg_worker.specs.declared.worker.Worker.{Worker}
use Rattle.hg_worker.specs.Seats.{number_in, records_in, part_of_seat}
use Rattle.hg_service.specs.declared.kept_list.KeptList.{KeptList}

module _ {N : _} {own : _} {table : _} where
  -- a worker of this number that holds nothing, has nothing in hand, and whose seat has seen and
  -- ended nothing
  pub record IsNew (number : ℕ) (worker : Worker N own table) : Type 0 where
    pub number_is : worker.inner.value.number ≡ number
    pub held : worker.inner.value.heap.segments ≡ []
    pub hand : worker.inner.value.hand ≡ None
    pub seat : KnowsNothing (part_on worker.inner.value.seat.badge)

  -- so many new workers, each at its number
  pub record AreNew (count : ℕ) (workers : List (Worker N own table)) : Type 0 where
    pub all : length workers ≡ count
    pub each :
        (k : ℕ) (worker : Worker N own table) → slice_get workers k ≡ Some worker
        → IsNew k worker

module _ {N : _} where
  -- so many lists, each at the number of its segment, to which nothing was sent
  pub record AreUnsent (count : ℕ) (lists : List (KeptList N)) : Type 0 where
    pub all : length lists ≡ count
    pub number :
        (k : ℕ) (kept : KeptList N) → slice_get lists k ≡ Some kept
        → kept.segment ≡ k
    pub sent :
        (k : ℕ) (kept : KeptList N) → slice_get lists k ≡ Some kept
        → kept.list ≡ nothing_sent

module _ {N : _} {table : _} where
  -- seats of segments, each at its number
  abbrev pub AreAtNumbers : List (SegmentSeat N table) → Type 0
  AreAtNumbers seats =
      (k : ℕ) (d : SegmentSeat N table) → k < length seats
      → number_in (slice_index_or seats k d).inner ≡ k

-- a segment of the policy's of whose places none was ever given out, whose pages have no class,
-- and whose seat has seen and ended nothing
pub record IsUnused (policy : Policy) (one : Kept UnnamedSegment) : Type 0 where
  pub of : IsOf number_in policy one
  pub home : (at : ℕ) → standing_at (records_in one.slots) at ≡ Home 0
  pub classes : (page : ℕ) → class_at one.classes page ≡ None
  pub seat : KnowsNothing (part_of_seat one.slots)

-- the segments of the policy from a number on, so many, each fresh
pub record AreFresh (policy : Policy) (from count : ℕ) (pool : Pooled UnnamedSegment)
    : Type 0 where
  pub orphans : pool.orphans ≡ []
  pub numbers_are : numbers number_in pool.fresh ≡ range_with_len from count
  pub each : AllByRecursion (IsUnused policy) pool.fresh
