use Rattle.std.proofs.Common.{◌≡◌, ◌<◌, Some, length, sym, ap, subst, ◌∙◌, arith, slice_get, slice_set}
use Rattle.std.proofs.lemmas.Option.{slice_get-get_or}
use Rattle.hg_bank_service.proofs.Lists.{IsAt}
use Rattle.hg_bank_service.proofs.Summed.{covered, sum_low, sums_follow}
use Rattle.hg_bank_service.proofs.asking.serve_there.Goals as goal

pub withdraw-requires-clause-covered : goal.withdraw-requires-clause-covered
withdraw-requires-clause-covered c = λ tenant less.
    let items = c.args.workers.now.items in
    let low : c.from.result < length items = omega (arith, c.from.ensures, c.requires.there) in
    let there : IsAt items c.from.result c.index_mut-worker.result.now =
    record {
      there = slice_get-get_or items c.from.result c.index_mut-worker.result.now low
          ∙ ap Some (sym c.index_mut-worker.ensures.value);
    } in
    covered c.requires.counted there tenant (omega (arith, less, c.tenants-tenants.ensures.tenants))

pub deposit-requires-clause-room : goal.deposit-requires-clause-room
deposit-requires-clause-room c = λ tenant less.
    let out = c.withdraw.ensures tenant less in
    let sum = sum_low c.requires.counted tenant
    (omega (arith, less, c.tenants-tenants.ensures.tenants)) in
    omega (arith, out, sum, c.requires.few)

pub returns-clause-served : goal.returns-clause-served
returns-clause-served c =
    let items = c.args.workers.now.items in
    let was = c.index_mut-worker.result.now in
    let next = c.step-told.new.self in
    let low : c.from.result < length items = omega (arith, c.from.ensures, c.requires.there) in
    record {
      was = was;
      next = next;
      there = subst (λ n. slice_get items n ≡ Some was) c.from.ensures
          (slice_get-get_or items c.from.result was low
          ∙ ap Some (sym c.index_mut-worker.ensures.value));
      after = ap (λ n. slice_set items n next) c.from.ensures;
      served = c.step-told.ensures.served;
      reach = c.step-told.ensures.reach;
    }

pub returns-clause-counted : goal.returns-clause-counted
returns-clause-counted c =
    let items = c.args.workers.now.items in
    let was = c.index_mut-worker.result.now in
    let low : c.from.result < length items = omega (arith, c.from.ensures, c.requires.there) in
    let there : IsAt items c.from.result was =
    record {
      there = slice_get-get_or items c.from.result was low
          ∙ ap Some (sym c.index_mut-worker.ensures.value);
    } in
    let tenants = c.tenants-tenants.ensures.tenants in
    sums_follow c.requires.counted there c.step-told.new.self c.withdraw.new.row c.deposit.new.row
    (λ tenant less. c.withdraw.ensures tenant (omega (arith, less, tenants)))
    (λ tenant less. c.deposit.ensures.sums tenant (omega (arith, less, tenants)))
    (λ tenant less. c.deposit.ensures.few tenant (omega (arith, less, tenants)))
