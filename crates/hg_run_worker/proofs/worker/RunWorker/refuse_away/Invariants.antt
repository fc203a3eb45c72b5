use Rattle.std.specs.Prelude.{Some}
use Rattle.hg_run_worker.specs.AtWork.{view_in}
use Rattle.hg_run_worker.proofs.worker.RunWorker.refuse_away.Given as goal

-- the refusal, by the word or without one
abbrev pub ghosts-call_alone : goal.ghosts-call_alone
ghosts-call_alone g a = record {
  before = view_in a.self.now;
  call = (g.C.RefusedCall.event, g.C.RefusedCall.refused 0);
  after = view_in a.self.now;
}

abbrev pub ghosts-look_deciding : goal.ghosts-look_deciding
ghosts-look_deciding g a = record {
  before = view_in a.self.now;
  call = λ word. Some (g.C.RefusedCall.event, g.C.RefusedCall.refused word);
  after = λ word. view_in a.self.now;
}
