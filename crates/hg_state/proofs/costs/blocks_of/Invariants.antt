use Rattle.std.proofs.Common.{◌≡◌, ◌≤◌, count_by, take}
use Rattle.hg_state.specs.Costs.{is_of}
use Rattle.hg_state.proofs.costs.blocks_of.Given as goal

-- the blocks so far are counted
abbrev pub invariant-loop-block : goal.invariant-loop-block
invariant-loop-block l = record {
  counted : l.count ≡ count_by (is_of l.class) (take l.block-index l.blocks);
  few : l.count ≤ l.block-index;
}
