-- The end of a service: which parts of the run were given back.
use Rattle.std.specs.Prelude.{◌≡◌, ℕ, min, List, ◌∷◌, length, map, filter}
use Rattle.std.specs.List.{range_with_len}
use Rattle.atomic_table.specs.Seated.{TableId}
use Rattle.hg_place.specs.declared.geometry.TheConstants.{MAX_SEGMENTS}
use Rattle.hg_machine.specs.Policy.{Policy}
use Rattle.hg_segment.specs.Kept.{Kept}
use Rattle.hg_heap.specs.Held.{is_held}
use Rattle.hg_roles.specs.Roles.{Role, of_worker, of_pool, of_segment}
use Rattle.hg_run_table.specs.declared.segment.RunSegment.{RunSegment}
use Rattle.hg_run_table.specs.Calls.{log_in}
use Rattle.hg_run_table.specs.Seated.{HaveRoles}
use Rattle.hg_run_worker.specs.declared.ending.RunEnd.{RunEnd}
use Rattle.hg_run_worker.specs.declared.ending.TheConstants.{MANY}
use Rattle.hg_run_worker.specs.declared.pool.RunPool.{RunPool}
use Rattle.hg_run_worker.specs.declared.worker.RunWorker.{RunWorker}
use Rattle.hg_run_worker.specs.AtWork.{number_in, view_in}
use Rattle.hg_run_worker.specs.Pools.{pool_part, pooled_in}

-- The parts with these roles were given back, in this order: their seats are one seat of the table. They are
-- counted, up to a number that no service comes to
pub record HasGathered (id : TableId) (roles : List Role) (parts : RunEnd) : Type 0 where
  pub same : parts.seat.seat.table_id ≡ id
  pub have : HaveRoles parts.seat.seat.me.0.run roles
  pub counted : parts.count ≡ min MANY (length roles)

-- the numbers of these segments, rising: each segment's is below this bound
abbrev pub numbers_among : List (Kept RunSegment) → List ℕ
numbers_among segments = filter (is_held number_in segments) (range_with_len 0 MAX_SEGMENTS)

-- their parts
abbrev pub parts_of_segments : List (Kept RunSegment) → List Role
parts_of_segments segments = map of_segment (numbers_among segments)

-- a worker's part, with all its calls, and the parts of the segments that it holds
abbrev pub parts_of_worker : RunWorker → List Role
parts_of_worker worker =
    of_worker (view_in worker) (log_in worker.call) ∷ parts_of_segments worker.heap.segments

-- the pool's part, and the parts of the segments that are in it
abbrev pub parts_of_pool : Policy → RunPool → List Role
parts_of_pool policy pool =
    of_pool (pool_part policy pool.pool) ∷ parts_of_segments (pooled_in pool.pool)
