use Rattle.std.proofs.Common.{◌≡◌, suc, ◌+◌, ◌<◌, Some, length, slice_get, sym, ap, ◌∙◌, arith}
use Rattle.std.proofs.lemmas.Option.{slice_get-get_or}
use Rattle.hg_bank_service.proofs.Dealings.{all_dealt, one_dealt}
use Rattle.hg_bank_service.proofs.opening.deal.Goals as goal

pub loop-worker-preserved : goal.loop-worker-preserved
loop-worker-preserved c =
    let before = c.loop-worker.invariant in
    let steps = c.in-Some.ensures.steps in
    let workers = c.args.workers.items in
    let number = c.loop-worker.number in
    let now = c.loop-worker.rows.items in
    let row = c.index_mut-row.result.now in
    let worker = c.in-Some.worker in
    let all = before.dealing.all in
    let low : number < length now = omega (arith, before.count, steps.1, c.requires, all) in
    let zero : number ≡ number + 0 = omega arith in
    let there : slice_get workers number ≡ Some worker =
    ap (slice_get workers) zero ∙ before.left 0 worker (ap (λ xs. slice_get xs 0) steps.0) in
    let has : slice_get now number ≡ Some row =
    slice_get-get_or now number row low ∙ ap Some (sym c.index_mut-row.ensures.value) in
    record {
      dealing = one_dealt worker row c.push.new.self before.dealing there has
          c.in_ok-push.ensures.items;
      count = omega (arith, before.count, steps.1);
      left = λ k one at.
          (let next : number + 1 + k ≡ number + suc k = omega arith in
          ap (slice_get workers) next
          ∙ before.left (suc k) one (ap (λ xs. slice_get xs (suc k)) steps.0 ∙ at));
    }

pub returns : goal.returns
returns c =
    let before = c.loop-worker.invariant in
    all_dealt before.dealing (omega (arith, before.count, c.in-None.ensures.steps.0))
