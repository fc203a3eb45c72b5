use Rattle.std.proofs.Common.{◌≡◌, take}
use Rattle.hg_hosted.specs.Serving.{Serves}
use Rattle.hg_service_replies.specs.Words.{WritesEach}
use Rattle.hg_service_replies.proofs.words.write_all.Given as goal

-- those below were written
abbrev pub invariant-loop-at : goal.invariant-loop-at
invariant-loop-at l = record {
  each : Serves (WritesEach l.actor l.handle l.first 0 (take l.at l.words)) l.fn.worker l.worker;
  alone : l.worker.shared ≡ l.fn.worker.shared;
}
