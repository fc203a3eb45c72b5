use Rattle.std.proofs.Common.{◌∙◌, subst, sym}
use Rattle.hg_run_table.specs.NewSeats.{IsNewSegment, IsNewWorker}
use Rattle.hg_run_worker_tests.proofs.Lasts.{second_last}
use Rattle.hg_run_worker_tests.proofs.calls.opened.Goals as goal

-- the last seat of two is that of the worker of number 1
pub new-requires-2-clause-new : goal.new-requires-2-clause-new
new-requires-2-clause-new c =
    let opened = c.in_ok-table.ensures in
    subst (λ t. IsNewWorker c.args.policy.now t.table.shared.table_id 1 c.in-Some.seat)
    (sym c.in_ok-table-2.ensures.ok)
    (opened.each_worker 1 c.in-Some.seat
    (second_last _ _ _ c.in-Some.ensures.items (opened.workers ∙ c.requires.workers)))

pub new-requires-3-clause-each : goal.new-requires-3-clause-each
new-requires-3-clause-each c = λ k seat there.
    subst (λ t. IsNewSegment t.table.shared.table_id k seat) (sym c.in_ok-table-2.ensures.ok)
    (c.in_ok-table.ensures.each_segment k seat there)
