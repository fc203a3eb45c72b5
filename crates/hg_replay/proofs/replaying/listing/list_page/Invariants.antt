use Rattle.std.proofs.Common.{◌≡◌, ◌+◌, ◌*◌, ◌≤◌}
use Rattle.std.specs.List.{range_with_len}
use Rattle.hg_replay.specs.Looked.{Looked}
use Rattle.hg_replay.proofs.replaying.listing.list_page.Given as goal

-- the places so far are looked at
abbrev pub invariant-loop-index : goal.invariant-loop-index
invariant-loop-index g l =
    let seen = g.W.Sink.seen in
    record {
      same : l.core ≡ l.fn.core;
      looked :
          Looked l.fn.core l.fn.worker l.fn.actor (range_with_len
          (l.fn.segment * 8192 + l.fn.page * 512) l.index) l.rows
          (seen l.fn.out) l.fn.output (seen l.out) l.output;
      few : l.rows ≤ l.index;
    }
