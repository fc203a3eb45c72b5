use Rattle.std.proofs.Common.{◌≡◌, ◌∙◌, ◌+◌, ◌++◌, ◌∷◌, [], List, ap, slice_get, Some, arith, subst, sym}
use Rattle.std.specs.Arc.{arc_value}
use Rattle.hg_run_table.specs.NewSeats.{IsNewOther, IsNewSegment, IsNewWorker}
use Rattle.hg_roles.specs.Roles.{of_remote}
use Rattle.hg_run_table.specs.declared.table.RunTable.{RunTable}
use Rattle.hg_run_worker.specs.declared.worker.RunWorker.{RunWorker}
use Rattle.hg_run_worker.specs.AtWork.{IsReady}
use Rattle.hg_run_worker.proofs.LogsOfWorkers.{frees_are_once}
use Rattle.hg_run_worker_tests.proofs.Logged.{all_lists, never_both}
use Rattle.hg_run_worker_tests.proofs.Lasts.{first_of_two, of_two, second_last}
use Rattle.hg_run_worker_tests.proofs.frees.freed_by.Goals as goal
use Rattle.hg_run_worker_tests.proofs.frees.freed_by.Goals.{After-free_in_turn-freed, In_ok-push-2}

-- the last seat of two is that of the worker of number 1, and the one before it of number 0
pub new-requires-2-clause-new : goal.new-requires-2-clause-new
new-requires-2-clause-new c =
    let opened = c.in_ok-table.ensures in
    subst (λ t. IsNewWorker c.args.policy.now t.table.shared.table_id 1 c.in-Some.seat)
    (sym c.in_ok-table-2.ensures.ok)
    (opened.each_worker 1 c.in-Some.seat
    (second_last _ _ _ c.in-Some.ensures.items (opened.workers ∙ c.requires.workers)))

pub new-requires-3-clause-new : goal.new-requires-3-clause-new
new-requires-3-clause-new c =
    let opened = c.in_ok-table.ensures in
    subst (λ t. IsNewWorker c.args.policy.now t.table.shared.table_id 0 c.in-Some-pop.seat)
    (sym c.in_ok-table-2.ensures.ok)
    (opened.each_worker 0 c.in-Some-pop.seat
    (first_of_two _ _ _ _ _ c.in-Some.ensures.items c.in-Some-pop.ensures.items
    (opened.workers ∙ c.requires.workers)))

pub new-requires-4-clause-each : goal.new-requires-4-clause-each
new-requires-4-clause-each c = λ k seat there.
    subst (λ t. IsNewSegment t.table.shared.table_id k seat) (sym c.in_ok-table-2.ensures.ok)
    (c.in_ok-table.ensures.each_segment k seat there)

-- each worker is of the table
of_table : (c : After-free_in_turn-freed)
    → (arc_value c.free_in_turn-freed.new.one.table ≡ arc_value c.in_ok-table-2.table)
    × (arc_value c.free_in_turn-freed.new.two.table ≡ arc_value c.in_ok-table-2.table)
of_table c = (
  c.free_in_turn-freed.ensures.rest.table ∙ c.in_ok-one.ensures.table,
  c.free_in_turn-freed.ensures.rest_too.table ∙ c.in_ok-two.ensures.table,
)

-- which workers are given back
two_back : (c : In_ok-push-2)
    → c.push-2.new.self.items ≡ c.free_in_turn-freed.new.one ∷ c.free_in_turn-freed.new.two ∷ []
two_back c =
    c.in_ok-push-2.ensures.items
    ∙ ap (λ (ws : List RunWorker). ws ++ c.free_in_turn-freed.new.two ∷ [])
    (c.in_ok-push.ensures.items
    ∙ ap (λ (ws : List RunWorker). ws ++ c.free_in_turn-freed.new.one ∷ []) c.in_ok-workers.ensures.items)

pub end_service-requires-clause-lists : goal.end_service-requires-clause-lists
end_service-requires-clause-lists c = λ k seat there.
    (c.in_ok-table.ensures.each_list k seat there).same
    ∙ ap (λ (t : RunTable). t.table.shared.table_id) (sym c.in_ok-table-2.ensures.ok)

pub end_service-requires-clause-ready : goal.end_service-requires-clause-ready
end_service-requires-clause-ready c = λ k worker there.
    of_two IsReady c.free_in_turn-freed.new.one c.free_in_turn-freed.new.two
    c.free_in_turn-freed.ensures.ready c.free_in_turn-freed.ensures.ready_too k worker
    (subst (λ (ws : List RunWorker). slice_get ws k ≡ Some worker)
    (two_back (goal.at.end_service-requires-clause-ready c).In_ok-push-2) there)

pub end_service-requires-clause-of_it : goal.end_service-requires-clause-of_it
end_service-requires-clause-of_it c = λ k worker there.
    let of = of_table (goal.at.end_service-requires-clause-of_it c).After-free_in_turn-freed in
    ap (λ (t : RunTable). t.table.shared.table_id)
    (of_two (λ (w : RunWorker). arc_value w.table ≡ arc_value c.in_ok-table-2.table)
    c.free_in_turn-freed.new.one c.free_in_turn-freed.new.two of.0 of.1 k worker
    (subst (λ (ws : List RunWorker). slice_get ws k ≡ Some worker)
    (two_back (goal.at.end_service-requires-clause-of_it c).In_ok-push-2) there))

-- the run of all calls tells that they never both have
pub returns-in-Ok : goal.returns-in-Ok
returns-in-Ok c =
    let workers = two_back (goal.at.returns-in-Ok c).In_ok-push-2 in
    let rest = c.free_in_turn-freed.ensures.rest in
    let rest_too = c.free_in_turn-freed.ensures.rest_too in
    let zero_is : c.free_in_turn-freed.new.one.number ≡ 0 = rest.number ∙ c.in_ok-one.ensures.number in
    let one_is : c.free_in_turn-freed.new.two.number ≡ 1 = rest_too.number ∙ c.in_ok-two.ensures.number in
    record {
      once =
          never_both c.free_in_turn-freed.result c.free_in_turn-freed.new.one c.free_in_turn-freed.new.two
          c.free_in_turn-freed.ensures.logged
          (λ handle first second.
          frees_are_once c.args.policy.now _ c.free_in_turn-freed.new.pool _ c.push-2.new.self.items 0 1
          c.free_in_turn-freed.new.one c.free_in_turn-freed.new.two first.at second.at first.call
          second.call handle
          (c.in-Ok.ensures.run _ (all_lists 0 c.in_ok-table.seats.lists.items
          (λ k seat e.
          (let z : k ≡ 0 + k = omega arith in
          subst
          (λ n. IsNewOther c.in_ok-table.table.table.shared.table_id (of_remote n []) seat) z
          (c.in_ok-table.ensures.each_list k seat e)))))
          (ap (λ (ws : List RunWorker). slice_get ws 0) workers)
          (ap (λ (ws : List RunWorker). slice_get ws 1) workers)
          (λ e. absurd (omega (arith, e, zero_is, one_is)))
          first.there second.there first.freed second.freed);
    }
