use Rattle.std.proofs.Common.{◌≡◌, ◌<◌, ℕ, [], vec_len, vec_capacity, slice_index_or}
use Rattle.hg_bank.specs.State.{charge_over}
use Rattle.hg_bank.proofs.parts.summed.Given as goal

-- the rows of the workers so far
abbrev pub invariant-loop-worker : goal.invariant-loop-worker
invariant-loop-worker l = record {
  room : vec_capacity l.rows ≡ l.workers;
  long : vec_len l.rows ≡ l.worker;
  each : (worker tenant : ℕ) → worker < l.worker → tenant < l.tenants
      → slice_index_or (slice_index_or l.rows.items worker []) tenant 0
      ≡ charge_over l.cores worker tenant;
}
