use Rattle.std.proofs.Common.{◌≡◌, map, take, vec_len, vec_capacity}
use Rattle.hg_trace.specs.Labels.{label_count}
use Rattle.hg_trace.specs.Stored.{lines_in}
use Rattle.hg_replay.specs.Replays.{starting}
use Rattle.hg_reasons.specs.Explaining.{Explains}
use Rattle.hg_reasons.proofs.explain.explain.Given as goal

-- the lines so far are answered, and told so
abbrev pub invariant-loop-line : goal.invariant-loop-line
invariant-loop-line l = record {
  policy : l.ready.core.state.policy ≡ l.fn.ready.core.state.policy;
  meant : l.ready.meant ≡ l.fn.ready.meant;
  told :
      Explains (map (λ text. text.now) l.texts) (starting l.fn.ready.core) l.fn.story (take l.line-index (lines_in l.trace))
      (record { kept = l.ready.core; handles = l.ready.handles.items }) l.story;
  count : vec_len l.ready.handles ≡ label_count (take l.line-index (lines_in l.trace));
  room : vec_capacity l.ready.handles ≡ vec_capacity l.fn.ready.handles;
}
