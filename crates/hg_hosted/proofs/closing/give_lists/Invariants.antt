use Rattle.std.proofs.Common.{◌≡◌, length}
use Rattle.hg_close.specs.Rooms.{IsUnfilled}
use Rattle.hg_hosted.proofs.closing.give_lists.Given as goal

abbrev pub invariant-loop-segment : goal.invariant-loop-segment
invariant-loop-segment l = record {
  all : length l.room.parts.remotes.items ≡ l.segments;
  unfilled : IsUnfilled l.room;
  policy : l.room.parts.policy ≡ l.fn.room.parts.policy;
  lists : length l.lists.items ≡ length l.fn.lists.items;
}
