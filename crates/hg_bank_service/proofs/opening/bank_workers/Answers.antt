use Rattle.std.proofs.Common.{◌≡◌, ℕ, suc, ◌+◌, List, Some, length, slice_get, sym, ap, subst, ◌∙◌, arith}
use Rattle.std.proofs.Common.{length-append}
use Rattle.std.proofs.lemmas.Option.{same_Some}
use Rattle.hg_bank_service.specs.Dealing.{AreNew}
use Rattle.hg_bank_service.specs.New.{IsNewWorker}
use Rattle.hg_bank_service.specs.declared.worker.BankWorker.{BankWorker}
use Rattle.hg_bank_service.proofs.Dealings.{Row}
use Rattle.hg_bank_service.proofs.Lists.{each_more}
use Rattle.hg_bank_service.proofs.opening.bank_workers.Goals as goal

pub bank_worker-requires-clause-new : goal.bank_worker-requires-clause-new
bank_worker-requires-clause-new c =
    let before = c.loop-row.invariant in
    let workers = c.loop-row.workers.items in
    let steps = c.in-Some.ensures.steps in
    let zero : length workers ≡ length workers + 0 = omega arith in
    let there : slice_get c.args.rows.items (length workers) ≡ Some c.in-Some.row =
    ap (slice_get c.args.rows.items) zero
    ∙ before.left 0 c.in-Some.row (ap (λ xs. slice_get xs 0) steps.0) in
    subst (λ n. AreNew c.args.policy.now n c.in-Some.row.items) (sym before.count)
    (c.requires.new (length workers) c.in-Some.row there)

pub loop-row-preserved : goal.loop-row-preserved
loop-row-preserved c =
    let before = c.loop-row.invariant in
    let workers = c.loop-row.workers.items in
    let rows = c.args.rows.items in
    let row = c.in-Some.row in
    let made = c.in_ok-bank_worker.field-0 in
    let steps = c.in-Some.ensures.steps in
    let pushed = c.in_ok-push.ensures.items in
    let more = ap length pushed ∙ length-append workers _ in
    let zero : length workers ≡ length workers + 0 = omega arith in
    let there : slice_get rows (length workers) ≡ Some row =
    ap (slice_get rows) zero ∙ before.left 0 row (ap (λ xs. slice_get xs 0) steps.0) in
    let new : IsNewWorker c.args.policy.now (length workers) (length row.items) made =
    subst (λ n. IsNewWorker c.args.policy.now n (length row.items) made) before.count
    c.in_ok-bank_worker.ensures.new in
    record {
      count = omega (arith, before.count, more);
      all = omega (arith, before.all, steps.1, more);
      left = λ k one at.
          (let next : length c.push.new.self.items + k ≡ length workers + suc k =
          omega (arith, more) in
          ap (slice_get rows) next
          ∙ before.left (suc k) one (ap (λ xs. slice_get xs (suc k)) steps.0 ∙ at));
      new = subst
          (λ (xs : List BankWorker). (k : ℕ) (worker : BankWorker) → slice_get xs k ≡ Some worker
          → (one : Row) → slice_get rows k ≡ Some one
          → IsNewWorker c.args.policy.now k (length one.items) worker) (sym pushed)
          (each_more
          (λ k worker. (one : Row) → slice_get rows k ≡ Some one
          → IsNewWorker c.args.policy.now k (length one.items) worker) workers made before.new
          (λ one at. subst
          (λ (r : Row). IsNewWorker c.args.policy.now (length workers) (length r.items) made)
          (same_Some row one (sym there ∙ at)) new));
      has = subst
          (λ (xs : List BankWorker). (k : ℕ) (worker : BankWorker) → slice_get xs k ≡ Some worker
          → (one : Row) → slice_get rows k ≡ Some one → worker.workers.items ≡ one.items)
          (sym pushed)
          (each_more
          (λ k worker. (one : Row) → slice_get rows k ≡ Some one
          → worker.workers.items ≡ one.items) workers made before.has
          (λ one at. c.in_ok-bank_worker.ensures.workers
          ∙ ap (λ (r : Row). r.items) (same_Some row one (sym there ∙ at))));
    }
