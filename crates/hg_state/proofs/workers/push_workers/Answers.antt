use Rattle.std.proofs.Common.{◌≡◌, ap, ◌∙◌, arith}
use Rattle.hg_state.specs.Workers.{worker_text}
use Rattle.hg_text.proofs.Texts.{numbers_more, numbers_all}
use Rattle.hg_state.proofs.workers.push_workers.Goals as goal

pub loop-worker-preserved : goal.loop-worker-preserved
loop-worker-preserved c =
    numbers_more (worker_text c.args.form c.args.core.now.state) c.loop-worker.worker c.args.out.now.items c.loop-worker.out.items c.push_worker_text.new.out.items c.loop-worker.invariant c.in_ok-push_worker_text.ensures

pub returns : goal.returns
returns c =
    let count = c.workers-worker-end.ensures.workers ∙ ap (λ p. p.workers) c.policy.ensures.value in
    let ends : c.loop-worker.worker ≡ c.args.core.now.state.policy.workers = omega (arith, c.loop-worker-test.false, c.loop-worker.auto.worker-end, count) in
    numbers_all (worker_text c.args.form c.args.core.now.state) c.loop-worker.worker _ c.args.out.now.items c.loop-worker.out.items ends c.loop-worker.invariant
