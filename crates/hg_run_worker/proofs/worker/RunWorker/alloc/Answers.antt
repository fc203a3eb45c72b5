use Rattle.std.proofs.Common.{None}
use Rattle.hg_run_worker.specs.AtWork.{hand_generation, hand_place}
use Rattle.hg_run_worker.proofs.worker.RunWorker.alloc.Goals as goal

pub log_refused-requires-clause-tied : goal.log_refused-requires-clause-tied
log_refused-requires-clause-tied c =
    let s = c.args.self.now in
    c.in-Err.ensures.refused None s.number (hand_place s.hand) (hand_generation s.hand) s.below
