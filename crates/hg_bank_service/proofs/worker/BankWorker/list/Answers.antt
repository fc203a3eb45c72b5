use Rattle.std.proofs.Common.{◌≡◌, ◌<◌, Some, Vec, length, refl, sym, ap, subst, ◌∙◌, arith, slice_get, slice_set}
use Rattle.std.specs.declared.alloc.Global.{Global}
use Rattle.std.proofs.lemmas.Option.{slice_get-get_or}
use Rattle.hg_machine.specs.declared.Row.{Row}
use Rattle.hg_bank_service.proofs.Calls.{keeps_after, keeps_of}
use Rattle.hg_bank_service.proofs.Listed.{listed_keep, listed_same, listed_there}
use Rattle.hg_bank_service.proofs.Lists.{IsAt}
use Rattle.hg_bank_service.proofs.Summed.{sums_stay}
use Rattle.hg_bank_service.proofs.worker.BankWorker.list.Goals as goal

pub invariant_of-self : goal.invariant_of-self
invariant_of-self c =
    let old = c.args.self.now in
    let items = old.workers.items in
    let at = c.from-2.result in
    let was = c.index_mut-worker.result.now in
    let next = c.list.new.self in
    let low : at < length items = omega (arith, old.workers.ok.0) in
    let there : IsAt items at was =
    record { there = slice_get-get_or items at was low ∙ ap Some (sym c.index_mut-worker.ensures.value) }
    in
    let k = keeps_after at next (keeps_of old)
    (listed_keep (λ (rows : Vec Row Global). rows.items) c.args.actor was next c.list.result old.policy
    old.number c.list.ensures.served (old.of at was there.there))
    (sums_stay old.counted there next
    (listed_same (λ (rows : Vec Row Global). rows.items) c.args.actor was next c.list.result
    c.list.ensures.served)) in
    record {
      below = k.below;
      some = k.some;
      most = k.most;
      of = k.of;
      there = k.there;
      counted = k.counted;
      here = k.here;
      room = k.room;
    }

pub returns : goal.returns
returns c =
    let old = c.args.self.now in
    let items = old.workers.items in
    let at = c.from-2.result in
    let was = c.index_mut-worker.result.now in
    let next = c.list.new.self in
    let low : at < length items = omega (arith, old.workers.ok.0) in
    let there = slice_get-get_or items at was low ∙ ap Some (sym c.index_mut-worker.ensures.value)
    in
    listed_there (λ (rows : Vec Row Global). rows.items) c.args.actor was next c.list.result c.args.core
    old _ c.list.ensures.served (subst (λ n. slice_get items n ≡ Some was) c.from-2.ensures there)
    (ap (λ n. slice_set items n next) c.from-2.ensures) c.list.ensures.alone
    record { policy = refl; number = refl; currents = refl }
