use Rattle.std.proofs.Common.{◌≤◌, ◌∷◌, [], List, ap, length, rules, sym, subst, ◌∙◌, arith}
use Rattle.std.proofs.lemmas.List.{length-append}
use Rattle.hg_hosted.specs.declared.worker.HostedWorker.{HostedWorker}
use Rattle.hg_hosted.specs.Departing.{IsBack}
use Rattle.hg_bank_service.specs.Idle.{AreIdleFrom}
use Rattle.hg_bank_service.specs.Leaving.{AreLeft}
use Rattle.hg_bank_service.proofs.Departures.{AreGone, IsPopped, all_gone, none_gone, one_back, one_gone, some_back, still_few, still_idle}
use Rattle.hg_bank_service.proofs.leaving.all_leave.Goals as goal

pub loop-worker-init : goal.loop-worker-init
loop-worker-init c = record {
  left = none_gone c.args.workers.items c.args.gone.items;
  room = c.requires.room;
}

pub loop-worker-preserved : goal.loop-worker-preserved
loop-worker-preserved c =
    let before = c.loop-worker.invariant in
    let popped : IsPopped c.loop-worker.workers.items c.pop.new.self.items c.in-Some.worker =
    record { is = c.in-Some.ensures.items } in
    let fewer = ap length c.in-Some.ensures.items ∙ length-append c.pop.new.self.items (c.in-Some.worker ∷ []) in
    let grown = ap length c.push_reserved.ensures.items ∙ length-append c.loop-worker.gone.items (c.in-Ok.one ∷ []) in
    record {
      left = subst (AreGone c.args.workers.items c.args.gone.items c.pop.new.self.items)
          (sym c.push_reserved.ensures.items)
          (one_gone before.left popped c.in-Ok.one c.in-Ok.ensures.gone);
      room = omega (arith, fewer, grown, before.room, c.push_reserved.ensures.capacity);
    }

pub invariant_of-result : goal.invariant_of-result
invariant_of-result c =
    let before = c.loop-worker.invariant in
    let popped : IsPopped c.loop-worker.workers.items c.pop.new.self.items c.in-Some.worker =
    record { is = c.in-Some.ensures.items } in
    let same : IsBack c.in-Some.worker c.in-Err.back =
    record { state = c.in-Err.ensures.back; taken = c.in-Err.ensures.taken; places = c.in-Err.ensures.places } in
    let items = sym c.push_reserved-in-Err.ensures.items in
    let fewer = ap length c.in-Some.ensures.items ∙ length-append c.pop.new.self.items (c.in-Some.worker ∷ []) in
    let more = ap length c.push_reserved-in-Err.ensures.items ∙ length-append c.pop.new.self.items (c.in-Err.back ∷ []) in
    record {
      idle = subst (AreIdleFrom 0) items
          (still_idle before.left popped c.in-Err.back same c.requires.idle);
      few = subst (λ (xs : List HostedWorker). length xs ≤ 16384) items
          (still_few before.left popped c.in-Err.back same c.requires.few);
      room = omega (arith, fewer, more, before.room);
    }

pub returns-in-Err : goal.returns-in-Err
returns-in-Err c =
    let before = c.loop-worker.invariant in
    let popped : IsPopped c.loop-worker.workers.items c.pop.new.self.items c.in-Some.worker =
    record { is = c.in-Some.ensures.items } in
    let same : IsBack c.in-Some.worker c.in-Err.back =
    record { state = c.in-Err.ensures.back; taken = c.in-Err.ensures.taken; places = c.in-Err.ensures.places } in
    let items = sym c.push_reserved-in-Err.ensures.items in
    record {
      some = subst (λ (xs : List HostedWorker). 1 ≤ length xs) items
          (some_back before.left popped c.in-Err.back same);
      left = subst (λ (xs : List HostedWorker). AreLeft c.args.workers.items c.args.gone.items xs c.loop-worker.gone.items)
          items (one_back before.left popped c.in-Err.back same);
    }

pub returns : goal.returns
returns c = all_gone c.loop-worker.invariant.left (search rules)
