use Rattle.std.proofs.Common.{◌≡◌, ◌≤◌, map, take, vec_len, vec_capacity}
use Rattle.hg_trace.specs.Labels.{label_count}
use Rattle.hg_trace.specs.Stored.{lines_in}
use Rattle.hg_replay.specs.Replays.{starting}
use Rattle.hg_expect.specs.Findings.{nothing}
use Rattle.hg_expect.specs.Judging.{Judges}
use Rattle.hg_expect.proofs.judge.judge.Given as goal

-- the lines so far are answered, and this is found of them
abbrev pub invariant-loop-line : goal.invariant-loop-line
invariant-loop-line l = record {
  policy : l.ready.core.state.policy ≡ l.fn.ready.core.state.policy;
  meant : l.ready.meant ≡ l.fn.ready.meant;
  judged :
      Judges (map (λ text. text.now) l.texts) (starting l.fn.ready.core) nothing (take l.line-index (lines_in l.trace))
      (record { kept = l.ready.core; handles = l.ready.handles.items }) l.found;
  count : vec_len l.ready.handles ≡ label_count (take l.line-index (lines_in l.trace));
  room : vec_capacity l.ready.handles ≡ vec_capacity l.fn.ready.handles;
  stated : l.found.stated ≤ l.line-index;
  differ : l.found.differ ≤ l.line-index;
  slips : l.found.slips ≤ l.line-index;
}
