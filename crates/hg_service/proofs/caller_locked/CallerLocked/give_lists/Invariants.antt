use Rattle.std.proofs.Common.{◌≡◌, drop, length, take}
use Rattle.hg_close.specs.Rooms.{IsUnfilled}
use Rattle.hg_service.specs.GivenBack.{AreListsOf}
use Rattle.hg_service.proofs.caller_locked.CallerLocked.give_lists.Given as goal

abbrev pub invariant-loop-kept : goal.invariant-loop-kept
invariant-loop-kept g l = record {
  later : drop l.kept-index l.kept-items ≡ drop l.kept-index l.fn.self.lists.items;
  lists : AreListsOf (take l.kept-index l.fn.self.lists.items)
      (length g.N.ServiceName.policy.segments) l.room.parts.remotes.items;
  policy : l.room.parts.policy ≡ g.N.ServiceName.policy;
  unfilled : IsUnfilled l.room;
}
