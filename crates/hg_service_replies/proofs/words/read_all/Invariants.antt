use Rattle.std.proofs.Common.{◌≡◌, length, take, drop}
use Rattle.hg_hosted.specs.Serving.{Serves}
use Rattle.hg_service_replies.specs.Words.{ReadsEach}
use Rattle.hg_service_replies.proofs.words.read_all.Given as goal

-- those below were read, and those from there on are as they were
abbrev pub invariant-loop-at : goal.invariant-loop-at
invariant-loop-at l = record {
  all : length l.room ≡ length l.fn.room;
  each : Serves (ReadsEach l.actor l.handle l.first 0 (take l.at l.room)) l.fn.worker l.worker;
  rest : drop l.at l.room ≡ drop l.at l.fn.room;
  alone : l.worker.shared ≡ l.fn.worker.shared;
}
