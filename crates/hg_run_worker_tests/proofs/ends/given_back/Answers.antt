use Rattle.std.proofs.Common.{◌≡◌, ◌∙◌, ◌++◌, ◌∷◌, [], List, ap, slice_get, Some, subst, sym}
use Rattle.std.specs.Arc.{arc_value}
use Rattle.hg_run_table.specs.NewSeats.{IsNewSegment, IsNewWorker}
use Rattle.hg_run_table.specs.declared.table.RunTable.{RunTable}
use Rattle.hg_run_worker.specs.declared.worker.RunWorker.{RunWorker}
use Rattle.hg_run_worker.specs.AtWork.{IsReady}
use Rattle.hg_run_worker_tests.proofs.Lasts.{first_of_two, of_one, of_two, second_last}
use Rattle.hg_run_worker_tests.proofs.ends.given_back.Goals as goal
use Rattle.hg_run_worker_tests.proofs.ends.given_back.Goals.{After-serve, In_ok-push, In_ok-push-2}

-- the last seat of two is that of the worker of number 1, and the one before it of number 0
pub new-requires-2-clause-new : goal.new-requires-2-clause-new
new-requires-2-clause-new c =
    let opened = c.in_ok-table.ensures in
    subst (λ t. IsNewWorker c.args.policy.now t.table.shared.table_id 1 c.in-Some.seat)
    (sym c.in_ok-table-2.ensures.ok)
    (opened.each_worker 1 c.in-Some.seat
    (second_last _ _ _ c.in-Some.ensures.items (opened.workers ∙ c.requires.workers)))

pub new-requires-3-clause-new : goal.new-requires-3-clause-new
new-requires-3-clause-new c =
    let opened = c.in_ok-table.ensures in
    subst (λ t. IsNewWorker c.args.policy.now t.table.shared.table_id 0 c.in-Some-pop.seat)
    (sym c.in_ok-table-2.ensures.ok)
    (opened.each_worker 0 c.in-Some-pop.seat
    (first_of_two _ _ _ _ _ c.in-Some.ensures.items c.in-Some-pop.ensures.items
    (opened.workers ∙ c.requires.workers)))

pub new-requires-4-clause-each : goal.new-requires-4-clause-each
new-requires-4-clause-each c = λ k seat there.
    subst (λ t. IsNewSegment t.table.shared.table_id k seat) (sym c.in_ok-table-2.ensures.ok)
    (c.in_ok-table.ensures.each_segment k seat there)

-- each worker is of the table
of_table : (c : After-serve)
    → (arc_value c.serve.new.one.table ≡ arc_value c.in_ok-table-2.table)
    × (arc_value c.serve.new.two.table ≡ arc_value c.in_ok-table-2.table)
of_table c = (
  c.serve.ensures.rest.table ∙ c.in_ok-one.ensures.table,
  c.serve.ensures.rest_too.table ∙ c.in_ok-two.ensures.table,
)

-- which workers are given back
one_back : (c : In_ok-push) → c.push.new.self.items ≡ c.serve.new.one ∷ []
one_back c =
    c.in_ok-push.ensures.items
    ∙ ap (λ (ws : List RunWorker). ws ++ c.serve.new.one ∷ []) c.in_ok-workers.ensures.items

two_back : (c : In_ok-push-2) → c.push-2.new.self.items ≡ c.serve.new.one ∷ c.serve.new.two ∷ []
two_back c =
    c.in_ok-push-2.ensures.items
    ∙ ap (λ (ws : List RunWorker). ws ++ c.serve.new.two ∷ [])
    (one_back (goal.at.ends-requires-2-clause-ready c).In_ok-push)

pub ends-requires-clause-lists : goal.ends-requires-clause-lists
ends-requires-clause-lists c = λ k seat there.
    (c.in_ok-table.ensures.each_list k seat there).same
    ∙ ap (λ (t : RunTable). t.table.shared.table_id) (sym c.in_ok-table-2.ensures.ok)

pub ends-requires-clause-ready : goal.ends-requires-clause-ready
ends-requires-clause-ready c = λ k worker there.
    of_one IsReady c.serve.new.one c.serve.ensures.ready k worker
    (subst (λ (ws : List RunWorker). slice_get ws k ≡ Some worker)
    (one_back (goal.at.ends-requires-clause-ready c).In_ok-push) there)

pub ends-requires-clause-of_it : goal.ends-requires-clause-of_it
ends-requires-clause-of_it c = λ k worker there.
    ap (λ (t : RunTable). t.table.shared.table_id)
    (of_one (λ (w : RunWorker). arc_value w.table ≡ arc_value c.in_ok-table-2.table) c.serve.new.one
    (of_table (goal.at.ends-requires-clause-of_it c).After-serve).0 k worker
    (subst (λ (ws : List RunWorker). slice_get ws k ≡ Some worker)
    (one_back (goal.at.ends-requires-clause-of_it c).In_ok-push) there))

pub ends-requires-2-clause-lists : goal.ends-requires-2-clause-lists
ends-requires-2-clause-lists c = λ k seat there.
    (c.in_ok-table.ensures.each_list k seat there).same
    ∙ ap (λ (t : RunTable). t.table.shared.table_id) (sym c.in_ok-table-2.ensures.ok)

pub ends-requires-2-clause-ready : goal.ends-requires-2-clause-ready
ends-requires-2-clause-ready c = λ k worker there.
    of_two IsReady c.serve.new.one c.serve.new.two c.serve.ensures.ready c.serve.ensures.ready_too k
    worker
    (subst (λ (ws : List RunWorker). slice_get ws k ≡ Some worker)
    (two_back (goal.at.ends-requires-2-clause-ready c).In_ok-push-2) there)

pub ends-requires-2-clause-of_it : goal.ends-requires-2-clause-of_it
ends-requires-2-clause-of_it c = λ k worker there.
    let of = of_table (goal.at.ends-requires-2-clause-of_it c).After-serve in
    ap (λ (t : RunTable). t.table.shared.table_id)
    (of_two (λ (w : RunWorker). arc_value w.table ≡ arc_value c.in_ok-table-2.table) c.serve.new.one
    c.serve.new.two of.0 of.1 k worker
    (subst (λ (ws : List RunWorker). slice_get ws k ≡ Some worker)
    (two_back (goal.at.ends-requires-2-clause-of_it c).In_ok-push-2) there))
