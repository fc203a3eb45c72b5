use Rattle.std.proofs.Common.{◌≡◌, false, ℕ, List, take, vec_len, vec_capacity}
use Rattle.hg_trace.specs.Labels.{label_count}
use Rattle.hg_trace.specs.Stored.{lines_in}
use Rattle.hg_replay.specs.Replays.{Replays, starting}
use Rattle.hg_replay.specs.Writes.{IsGiven}
use Rattle.hg_replay.proofs.replaying.replay_lines.Given as goal

-- the lines so far are answered, and their text is given to be written
abbrev pub invariant-loop-line : goal.invariant-loop-line
invariant-loop-line g l =
    let seen = g.W.Sink.seen in
    record {
      policy : l.core.state.policy ≡ l.fn.core.state.policy;
      replayed :
          (text : List ℕ)
          × Replays (starting l.fn.core) (take l.line-index (lines_in l.trace)) (record { kept = l.core; handles = l.handles.items }) text
          × IsGiven (seen l.fn.out) (seen l.out) l.output text;
      count : vec_len l.handles ≡ label_count (take l.line-index (lines_in l.trace));
      going : l.output.stopped ≡ false;
      room : vec_capacity l.handles ≡ vec_capacity l.fn.handles;
    }
