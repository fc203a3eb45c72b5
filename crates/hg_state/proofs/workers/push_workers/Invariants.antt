use Rattle.std.proofs.Common.{◌≡◌, ◌++◌}
use Rattle.std.specs.List.{flat_map, range_with_len}
use Rattle.hg_state.specs.Workers.{worker_text}
use Rattle.hg_state.proofs.workers.push_workers.Given as goal

-- the workers so far are told
abbrev pub invariant-loop-worker : goal.invariant-loop-worker
invariant-loop-worker l = l.out.items ≡ l.fn.out.items ++ flat_map (worker_text l.form l.core.state) (range_with_len 0 l.worker)
