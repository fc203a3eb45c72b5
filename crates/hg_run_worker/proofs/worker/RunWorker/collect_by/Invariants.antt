use Rattle.hg_run_worker.specs.AtWork.{view_in}
use Rattle.hg_run_worker.proofs.worker.RunWorker.collect_by.Given as goal

-- what the worker had and the call are as it is said, and it has what its segments tell
abbrev pub ghosts-call_alone : goal.ghosts-call_alone
ghosts-call_alone g a = record {
  before = g.W.OwnCall.before;
  call = g.W.OwnCall.call;
  after = view_in a.self.now;
}
