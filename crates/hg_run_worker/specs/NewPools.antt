-- A new pool: the segments of the policy, of which no worker has held any.
use Rattle.std.specs.Prelude.{◌≡◌, ℕ, ◌-◌, ◌≤◌, [], None, length, All}
use Rattle.std.specs.List.{range_with_len}
use Rattle.atomic_table.specs.Seated.{TableId}
use Rattle.hg_machine.specs.Policy.{Policy}
use Rattle.hg_segment.specs.Kept.{Kept, class_at}
use Rattle.hg_heap.specs.Policies.{IsOf}
use Rattle.hg_pool.specs.Pooled.{Pooled, numbers}
use Rattle.hg_table.specs.Seats.{AreHome}
use Rattle.hg_run_table.specs.declared.segment.RunSegment.{RunSegment}
use Rattle.hg_run_worker.specs.AtWork.{IsSeated, number_in, records_in}

-- A segment of the policy's of whose places none was ever given out, and whose pages have no class; its seat is
-- of the table and has its part of the run alone
pub record IsUnused (id : TableId) (policy : Policy) (one : Kept RunSegment) : Type 0 where
  pub of : IsOf number_in policy one
  pub home : AreHome (records_in one.slots)
  pub classes : (page : ℕ) → class_at one.classes page ≡ None
  pub seated : IsSeated id one.slots

-- The pool has the segments of the policy from a number on, fresh, in their order, each unused
pub record HasFrom (id : TableId) (policy : Policy) (first : ℕ) (pool : Pooled RunSegment) : Type 0 where
  pub within : first ≤ length policy.segments
  pub orphans : pool.orphans ≡ []
  pub fresh :
      numbers number_in pool.fresh ≡ range_with_len first (length policy.segments - first)
  pub unused : All (IsUnused id policy) pool.fresh
