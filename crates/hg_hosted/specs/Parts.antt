-- What workers share, by a state of a worker of the same service.
use Rattle.std.specs.Prelude.{◌≡◌, ◌++◌, Some}
use Rattle.hg_heap.specs.Policies.{AreOf}
use Rattle.hg_pool.specs.Pooled.{Pooled}
use Rattle.hg_table.specs.Named.{table_of_worker}
use Rattle.hg_table.specs.declared.segment.UnnamedSegment.{UnnamedSegment}
use Rattle.hg_worker.specs.declared.state.WorkerState.{WorkerState}
use Rattle.hg_worker.specs.Seats.{number_in, AreOnTable}
use Rattle.hg_worker.specs.States.{IsNamed}
use Rattle.hg_hosted.specs.Leaving.{IsIdle}
use Rattle.hg_hosted.specs.declared.parts.Left.{Left}
use Rattle.hg_hosted.specs.declared.parts.Segments.{Segments}

-- the segments are as the service's policy has them, with seats of its table
pub record ArePooled (of : WorkerState) (pool : Pooled UnnamedSegment) : Type 0 where
  pub each : AreOf number_in of.policy (pool.orphans ++ pool.fresh)
  pub named : AreOnTable (table_of_worker of.seat) (pool.orphans ++ pool.fresh)

-- two workers are of one service
abbrev pub IsOfOne : WorkerState → WorkerState → Type 0
IsOfOne of state = IsNamed of.policy (table_of_worker of.seat) state

-- the service of a worker has these segments
abbrev pub HasSegments : WorkerState → Segments → Type 0
HasSegments of segments = ArePooled of segments.pool

-- and this worker, if it is one, which holds nothing and has nothing in hand
abbrev pub HasLeft : WorkerState → Left → Type 0
HasLeft of left =
    (own : _) → left.state ≡ Some own → IsOfOne of own.value × IsIdle own.value
