use Rattle.std.proofs.Common.{◌≡◌, ◌≤◌, count_by}
use Rattle.std.specs.List.{range_with_len}
use Rattle.hg_core.specs.Kinds.{is_kind}
use Rattle.hg_core.proofs.serving.Core.count.Given as goal

abbrev pub invariant-loop-at : goal.invariant-loop-at
invariant-loop-at l = record {
  counted : l.count ≡ count_by (is_kind l.self.state l.kind) (range_with_len l.first l.at);
  few : l.count ≤ l.at;
}
