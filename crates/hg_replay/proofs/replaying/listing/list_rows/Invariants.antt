use Rattle.std.proofs.Common.{◌≡◌, ◌*◌, ◌≤◌}
use Rattle.std.specs.List.{range_with_len}
use Rattle.hg_replay.specs.Listings.{held_among}
use Rattle.hg_replay.specs.Looked.{Looked}
use Rattle.hg_replay.proofs.replaying.listing.list_rows.Given as goal

-- the places of the segments so far that the worker holds are looked at
abbrev pub invariant-loop-segment : goal.invariant-loop-segment
invariant-loop-segment g l =
    let seen = g.W.Sink.seen in
    record {
      same : l.core ≡ l.fn.core;
      looked :
          Looked l.fn.core l.fn.worker l.fn.actor
          (held_among l.fn.core.state l.fn.worker (range_with_len 0 (l.segment * 8192))) l.rows (seen l.fn.out) l.fn.output (seen l.out) l.output;
      few : l.rows ≤ l.segment * 8192;
    }
