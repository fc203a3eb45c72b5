use Rattle.std.proofs.Common.{◌≡◌, ◌<◌, ◌≤◌, Some, length, refl, sym, ap, subst, ◌∙◌, arith, slice_get, slice_set}
use Rattle.std.proofs.lemmas.Option.{slice_get-get_or, slice_get_past}
use Rattle.hg_bank_service.proofs.Calls.{absent_serves, keeps_after, keeps_of, there_serves}
use Rattle.hg_bank_service.proofs.Charging.{answered_same}
use Rattle.hg_bank_service.proofs.Kept.{answered_keep}
use Rattle.hg_bank_service.proofs.Lists.{IsAt}
use Rattle.hg_bank_service.proofs.Summed.{sums_stay}
use Rattle.hg_bank_service.proofs.worker.BankWorker.calm.Goals as goal

pub invariant_of-self : goal.invariant_of-self
invariant_of-self c =
    let old = c.args.self.now in
    let items = old.workers.items in
    let at = c.from-2.result in
    let was = c.index_mut-worker.result.now in
    let next = c.step.new.self in
    let low : at < length items = omega (arith, old.workers.ok.0) in
    let there : IsAt items at was =
    record { there = slice_get-get_or items at was low ∙ ap Some (sym c.index_mut-worker.ensures.value) }
    in
    let k = keeps_after at next (keeps_of old)
    (answered_keep c.args.event c.step.result was next old.policy old.number c.step.ensures.served
    (old.of at was there.there))
    (sums_stay old.counted there next
    (answered_same c.args.event c.requires c.step.result was next c.step.ensures.served)) in
    record {
      below = k.below;
      some = k.some;
      most = k.most;
      of = k.of;
      there = k.there;
      counted = k.counted;
      here = k.here;
      room = k.room;
    }

pub returns-then-from-len : goal.returns-then-from-len
returns-then-from-len c =
    let old = c.args.self.now in
    let past : length old.workers.items ≤ c.args.core =
    omega (arith, old.workers.ok.0, c.if-from-len.true, c.from.ensures, c.len.ensures) in
    absent_serves c.args.core c.args.event old _ (slice_get_past old.workers.items c.args.core past)
    record { told = ap Some c.absent.ensures; same = refl }

pub returns : goal.returns
returns c =
    let old = c.args.self.now in
    let items = old.workers.items in
    let at = c.from-2.result in
    let was = c.index_mut-worker.result.now in
    let next = c.step.new.self in
    let low : at < length items = omega (arith, old.workers.ok.0) in
    let there = slice_get-get_or items at was low ∙ ap Some (sym c.index_mut-worker.ensures.value)
    in
    there_serves c.args.core c.args.event old _
    (subst (λ n. slice_get items n ≡ Some was) c.from-2.ensures there)
    record {
      next = next;
      after = ap (λ n. slice_set items n next) c.from-2.ensures;
      served = c.step.ensures.served;
      reach = c.step.ensures.reach;
      rest = record { policy = refl; number = refl; currents = refl };
    }
