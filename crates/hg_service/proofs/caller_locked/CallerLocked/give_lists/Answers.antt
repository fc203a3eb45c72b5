use Rattle.std.proofs.Common.{◌+◌, ◌<◌, ◌∙◌, ap, arith, drop, length, set, subst}
use Rattle.std.proofs.Common.{sym, take}
use Rattle.hg_close.specs.Rooms.{IsUnfilled}
use Rattle.hg_close.specs.declared.room.CloseRoom.{CloseRoom}
use Rattle.hg_service.specs.GivenBack.{AreListsOf}
use Rattle.hg_service.proofs.ListsBack.{goes_nowhere, later_here, later_on, next_back}
use Rattle.hg_service.proofs.caller_locked.CallerLocked.give_lists.Goals.{then-kept-segments}
use Rattle.hg_service.proofs.caller_locked.CallerLocked.give_lists.Goals.{else-kept-segments}
use Rattle.hg_service.proofs.caller_locked.CallerLocked.give_lists.Goals as goal

pub loop-kept-preserved : goal.loop-kept-preserved
loop-kept-preserved g c =
    let one = c.kept-item.result in
    let i = c.loop-kept.kept-index in
    let now = c.loop-kept.kept-items in
    let lists = c.args.self.now.lists.items in
    let count = length g.N.ServiceName.policy.segments in
    let remotes = c.loop-kept.room.parts.remotes.items in
    let before = c.loop-kept.invariant in
    let within : i < length lists = omega (
      arith,
      c.loop-kept-test.true,
      c.loop-kept.auto.kept-items,
      ap length c.deref_mut-kept-items.ensures.value,
    ) in
    let next : AreListsOf (take (i + 1) lists) count (set remotes one.segment one.list) =
    next_back lists i one count remotes within
    (c.kept-item.is ∙ later_here now lists i one before.later) before.lists in
    elim c.if-kept-segments.branch [
      | then-kept-segments w ↦ record {
        later = ap (drop (i + 1)) w.kept-items-is ∙ later_on now lists i _ before.later;
        lists = subst (AreListsOf (take (i + 1) lists) count)
            (sym (ap (λ (room : CloseRoom). room.parts.remotes.items) w.room-is
            ∙ w.go_over.ensures.lists
            ∙ ap (λ kept. set remotes kept.segment kept.list) (sym c.kept-item.is))) next;
        policy = ap (λ (room : CloseRoom). room.parts.policy)
            (w.room-is ∙ w.go_over.ensures.rest) ∙ before.policy;
        unfilled = subst IsUnfilled (sym w.room-is)
            (w.go_over.ensures.unfilled before.unfilled);
      }
      | else-kept-segments w ↦ record {
        later = ap (drop (i + 1)) w.kept-items-is ∙ later_on now lists i _ before.later;
        lists = subst (AreListsOf (take (i + 1) lists) count)
            (goes_nowhere remotes one (omega (
              arith,
              w.if-kept-segments.false,
              ap (λ kept. kept.segment) c.kept-item.is,
              c.segments.ensures.segments,
              ap (λ policy. length policy.segments) c.args.self.now.serves,
              before.lists.all,
            ))
            ∙ sym (ap (λ (room : CloseRoom). room.parts.remotes.items) w.room-is)) next;
        policy = ap (λ (room : CloseRoom). room.parts.policy) w.room-is ∙ before.policy;
        unfilled = subst IsUnfilled (sym w.room-is) before.unfilled;
      }
    ]
