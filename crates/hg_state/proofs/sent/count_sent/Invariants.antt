use Rattle.std.proofs.Common.{◌≡◌, ◌≤◌, count_by}
use Rattle.std.specs.List.{range_with_len}
use Rattle.hg_machine.specs.Sweeps.{is_sent}
use Rattle.hg_state.proofs.sent.count_sent.Given as goal

-- the places so far are counted
abbrev pub invariant-loop-at : goal.invariant-loop-at
invariant-loop-at l = record {
  counted : l.count ≡ count_by (is_sent l.core.state) (range_with_len l.first l.at);
  few : l.count ≤ l.at;
}
