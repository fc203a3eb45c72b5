use Rattle.std.proofs.Common.{◌+◌, ◌≤◌, length, vec_capacity, vec_len}
use Rattle.hg_bank_service.proofs.Departures.{AreGone}
use Rattle.hg_bank_service.proofs.leaving.all_leave.Given as goal

abbrev pub invariant-loop-worker : goal.invariant-loop-worker
invariant-loop-worker l = record {
  left : AreGone l.fn.workers.items l.fn.gone.items l.workers.items l.gone.items;
  room : length l.workers.items + length l.gone.items ≤ vec_capacity l.gone;
}

abbrev pub decreases-loop-worker : goal.decreases-loop-worker
decreases-loop-worker l = vec_len l.workers
