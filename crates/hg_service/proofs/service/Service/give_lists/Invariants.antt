use Rattle.std.proofs.Common.{◌≡◌}
use Rattle.hg_close.specs.Rooms.{IsUnfilled}
use Rattle.hg_service.proofs.service.Service.give_lists.Given as goal

abbrev pub invariant-loop-segment : goal.invariant-loop-segment
invariant-loop-segment g l = record {
  policy : l.room.parts.policy ≡ g.N.ServiceName.policy;
  unfilled : IsUnfilled l.room;
}
