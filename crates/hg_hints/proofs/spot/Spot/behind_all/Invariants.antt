use Rattle.std.proofs.Common.{◌≡◌, ◌≤◌, ◌+◌, take}
use Rattle.hg_hints.specs.Spots.{spot_behind}
use Rattle.hg_hints.proofs.spot.Spot.behind_all.Given as goal

-- the place behind the bytes so far
abbrev pub invariant-loop-b : goal.invariant-loop-b
invariant-loop-b l = record {
  spot : l.spot ≡ spot_behind (take l.b-index l.text);
  line : l.spot.line ≤ l.b-index + 1;
  column : l.spot.column ≤ l.b-index + 1;
}
