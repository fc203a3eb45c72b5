use Rattle.std.proofs.Common.{◌≡◌, ◌<◌, Some, length, sym, ap, subst, ◌∙◌, arith, slice_get, slice_set}
use Rattle.std.proofs.lemmas.Option.{slice_get-get_or}
use Rattle.hg_bank_service.proofs.Counting.{given_others, sums_recounted, vain_same}
use Rattle.hg_bank_service.proofs.Lists.{IsAt}
use Rattle.hg_bank_service.proofs.Summed.{covered, sum_low, sums_stay}
use Rattle.hg_bank_service.proofs.asking.alloc_there.Goals as goal

pub recount-requires-clause-tenant : goal.recount-requires-clause-tenant
recount-requires-clause-tenant c =
    omega (
      arith,
      c.requires.tenant,
      c.tenants-tenants.ensures.tenants,
      c.tenants-tenants.ensures.few,
    )

pub recount-requires-clause-covered : goal.recount-requires-clause-covered
recount-requires-clause-covered c =
    let items = c.args.workers.now.items in
    let low : c.from.result < length items = omega (arith, c.from.ensures, c.requires.there) in
    let there : IsAt items c.from.result c.index_mut-worker.result.now =
    record {
      there = slice_get-get_or items c.from.result c.index_mut-worker.result.now low
          ∙ ap Some (sym c.index_mut-worker.ensures.value);
    } in
    let below : c.args.actor.0 < 64 =
    omega (
      arith,
      c.requires.tenant,
      c.tenants-tenants.ensures.tenants,
      c.tenants-tenants.ensures.few,
    ) in
    let cov = covered c.requires.counted there c.args.actor.0 c.requires.tenant in
    omega (arith, cov, c.charge-charged.ensures.counted below)

pub recount-requires-clause-room : goal.recount-requires-clause-room
recount-requires-clause-room c =
    let sum = sum_low c.requires.counted c.args.actor.0 c.requires.tenant in
    omega (arith, sum, c.requires.few, c.charge-charge.ensures.few)

pub returns-in_err-handle-clause-asked : goal.returns-in_err-handle-clause-asked
returns-in_err-handle-clause-asked c =
    let items = c.args.workers.now.items in
    let was = c.index_mut-worker.result.now in
    let next = c.alloc-told.new.self in
    let low : c.from.result < length items = omega (arith, c.from.ensures, c.requires.there) in
    record {
      was = was;
      next = next;
      there = subst (λ n. slice_get items n ≡ Some was) c.from.ensures
          (slice_get-get_or items c.from.result was low
          ∙ ap Some (sym c.index_mut-worker.ensures.value));
      after = ap (λ n. slice_set items n next) c.from.ensures;
      told = c.alloc-told.result;
      gives = c.from_residual.ensures ∙ c.in_err-handle.ensures;
      served = c.alloc-told.ensures.served;
      shared = c.alloc-told.ensures.alone;
      kept = c.charge-charged.ensures.kept;
    }

pub returns-clause-asked : goal.returns-clause-asked
returns-clause-asked c =
    let items = c.args.workers.now.items in
    let was = c.index_mut-worker.result.now in
    let next = c.alloc-told.new.self in
    let low : c.from.result < length items = omega (arith, c.from.ensures, c.requires.there) in
    record {
      was = was;
      next = next;
      there = subst (λ n. slice_get items n ≡ Some was) c.from.ensures
          (slice_get-get_or items c.from.result was low
          ∙ ap Some (sym c.index_mut-worker.ensures.value));
      after = ap (λ n. slice_set items n next) c.from.ensures;
      told = c.alloc-told.result;
      gives = c.in_ok-handle.ensures;
      served = c.alloc-told.ensures.served;
      shared = c.alloc-told.ensures.alone;
      kept = c.charge-charged.ensures.kept;
    }

pub returns-in_err-handle-clause-counted : goal.returns-in_err-handle-clause-counted
returns-in_err-handle-clause-counted c =
    let items = c.args.workers.now.items in
    let was = c.index_mut-worker.result.now in
    let next = c.alloc-told.new.self in
    let low : c.from.result < length items = omega (arith, c.from.ensures, c.requires.there) in
    let there : IsAt items c.from.result was =
    record {
      there = slice_get-get_or items c.from.result was low
          ∙ ap Some (sym c.index_mut-worker.ensures.value);
    } in
    sums_stay c.requires.counted there next
    (vain_same c.alloc-told.ensures.served (sym c.in_err-handle.ensures))

pub returns-clause-counted : goal.returns-clause-counted
returns-clause-counted c =
    let items = c.args.workers.now.items in
    let was = c.index_mut-worker.result.now in
    let next = c.alloc-told.new.self in
    let low : c.from.result < length items = omega (arith, c.from.ensures, c.requires.there) in
    let there : IsAt items c.from.result was =
    record {
      there = slice_get-get_or items c.from.result was low
          ∙ ap Some (sym c.index_mut-worker.ensures.value);
    } in
    let below : c.args.actor.0 < 64 =
    omega (
      arith,
      c.requires.tenant,
      c.tenants-tenants.ensures.tenants,
      c.tenants-tenants.ensures.few,
    ) in
    let charged = c.charge-charged.ensures.counted below in
    let charge = c.charge-charge.ensures.counted below in
    sums_recounted c.requires.counted there next c.args.actor.0 c.recount.new.row
    (omega (arith, c.recount.ensures.own, charged, charge)) c.recount.ensures.others
    (given_others c.alloc-told.ensures.served c.in_ok-handle.handle c.in_ok-handle.ensures
    c.charge-charged.ensures.kept c.charge-charge.ensures.kept)
    (omega (arith, charge, c.charge-charge.ensures.few))
