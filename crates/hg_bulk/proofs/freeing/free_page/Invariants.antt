use Rattle.std.proofs.Common.{◌+◌, ◌≤◌}
use Rattle.std.specs.List.{range_with_len}
use Rattle.hg_machine.specs.Lists.{IsPartition}
use Rattle.hg_machine.specs.Soundness.{IsSound}
use Rattle.hg_core.specs.BlockPlaces.{first_place}
use Rattle.hg_bulk.specs.Freeing.{FreesAmong}
use Rattle.hg_bulk.specs.Later.{IsSameFrom}
use Rattle.hg_bulk.proofs.freeing.free_page.Given as goal

-- the owner's blocks at the places so far are freed, and the others are as they were
abbrev pub invariant-loop-index : goal.invariant-loop-index
invariant-loop-index l =
    let first = first_place l.fn.segment l.fn.page in
    record {
      freed : FreesAmong l.fn.core l.fn.worker l.fn.actor l.fn.owner (range_with_len first l.index)
          l.freed l.core;
      later : IsSameFrom l.fn.core.state l.core.state (first + l.index);
      few : l.freed ≤ l.index;
      kept : IsSound l.core.state × IsPartition l.core;
    }
