use Rattle.hg_worker.specs.Missing.{HasAll}
use Rattle.hg_worker.specs.Seats.{number_in}
use Rattle.hg_worker.proofs.kept_pool.KeptPool.first_missing.Given as goal

abbrev pub invariant-loop-segment : goal.invariant-loop-segment
invariant-loop-segment g l = HasAll number_in l.self.pool l.segment
