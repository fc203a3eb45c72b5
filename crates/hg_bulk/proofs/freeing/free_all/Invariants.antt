use Rattle.std.proofs.Common.{◌*◌, ◌≤◌}
use Rattle.std.specs.List.{range_with_len}
use Rattle.hg_machine.specs.Lists.{IsPartition}
use Rattle.hg_machine.specs.Soundness.{IsSound}
use Rattle.hg_bulk.specs.Freeing.{FreesAmong}
use Rattle.hg_bulk.specs.Later.{IsSameFrom}
use Rattle.hg_bulk.proofs.freeing.free_all.Given as goal

-- the owner's blocks in the segments so far are freed, and the others are as they were
abbrev pub invariant-loop-segment : goal.invariant-loop-segment
invariant-loop-segment l = record {
  freed : FreesAmong l.fn.core l.fn.worker l.fn.actor l.fn.owner
      (range_with_len 0 (l.segment * 8192)) l.freed l.core;
  later : IsSameFrom l.fn.core.state l.core.state (l.segment * 8192);
  few : l.freed ≤ l.segment * 8192;
  kept : IsSound l.core.state × IsPartition l.core;
}
