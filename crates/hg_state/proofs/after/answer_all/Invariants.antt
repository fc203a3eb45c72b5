use Rattle.std.proofs.Common.{◌≡◌, List, take, vec_len, vec_capacity}
use Rattle.hg_trace.specs.Labels.{label_count}
use Rattle.hg_trace.specs.Stored.{lines_in}
use Rattle.hg_replay.specs.Replays.{starting}
use Rattle.hg_replay.specs.declared.replaying.told.Told.{Told}
use Rattle.hg_state.specs.After.{ComeTo}
use Rattle.hg_state.specs.Costs.{all_granted}
use Rattle.hg_state.proofs.after.answer_all.Given as goal

-- the lines so far are answered
abbrev pub invariant-loop-line : goal.invariant-loop-line
invariant-loop-line l = record {
  policy : l.ready.core.state.policy ≡ l.fn.ready.core.state.policy;
  meant : l.ready.meant ≡ l.fn.ready.meant;
  replayed :
      (told : List Told)
      × ComeTo (starting l.fn.ready.core) (take l.line-index (lines_in l.trace))
      (record { kept = l.ready.core; handles = l.ready.handles.items }) told
      × (l.blocks.items ≡ all_granted told);
  count : vec_len l.ready.handles ≡ label_count (take l.line-index (lines_in l.trace));
  orphans : l.orphans.items ≡ l.ready.core.state.orphans;
  room : vec_capacity l.ready.handles ≡ vec_capacity l.fn.ready.handles;
}
