use Rattle.std.proofs.Common.{◌+◌, ◌*◌, ◌≤◌}
use Rattle.std.specs.List.{range_with_len}
use Rattle.hg_machine.specs.Lists.{IsPartition}
use Rattle.hg_machine.specs.Soundness.{IsSound}
use Rattle.hg_bulk.specs.Freeing.{FreesAmong}
use Rattle.hg_bulk.specs.Later.{IsSameFrom}
use Rattle.hg_bulk.proofs.freeing.free_segment.Given as goal

-- the owner's blocks on the pages so far are freed, and the others are as they were
abbrev pub invariant-loop-page : goal.invariant-loop-page
invariant-loop-page l =
    let first = l.fn.segment * 8192 in
    record {
      freed : FreesAmong l.fn.core l.fn.worker l.fn.actor l.fn.owner
          (range_with_len first (l.page * 512)) l.freed l.core;
      later : IsSameFrom l.fn.core.state l.core.state (first + l.page * 512);
      few : l.freed ≤ l.page * 512;
      kept : IsSound l.core.state × IsPartition l.core;
    }
