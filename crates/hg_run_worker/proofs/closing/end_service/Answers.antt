use Rattle.std.proofs.Common.{List, ◌++◌, subst}
use Rattle.std.specs.Arc.{arc_value}
use Rattle.std.specs.List.{AllZip}
use Rattle.std.proofs.lemmas.Result.{IfErr-weaker, IfOk-weaker}
use Rattle.core.specs.Mem.Slots.{slots_items}
use Rattle.hg_machine.specs.Policy.{Policy}
use Rattle.hg_roles.specs.Roles.{Role}
use Rattle.hg_run_table.specs.JoinedCalls.{IsOthers}
use Rattle.hg_run_worker.specs.Ending.{HasGathered, parts_of_pool}
use Rattle.hg_run_worker.specs.Service.{all_parts}
use Rattle.hg_run_worker.proofs.LogsOfWorkers.{run_of_service}
use Rattle.hg_run_worker.proofs.closing.end_service.Goals as goal
use Rattle.hg_run_worker.proofs.closing.end_service.Goals.{After-workers}

-- all parts were given back
gathered : (c : After-workers) (roles : List Role) → AllZip IsOthers c.args.lists.items roles
    → HasGathered (arc_value c.args.table).table.shared.table_id
    (all_parts c.args.policy.now c.args.pool roles c.args.workers.items) c.workers.new.self
gathered c roles parts =
    let id = (arc_value c.args.table).table.shared.table_id in
    let pool = parts_of_pool c.args.policy.now c.args.pool in
    c.workers.ensures.gathered id (pool ++ roles)
    (c.parts.ensures.gathered id pool roles
    (subst (λ (p : Policy). HasGathered id (parts_of_pool p c.args.pool) c.new-end.result)
    c.requires.key c.new-end.ensures.gathered)
    parts)

pub returns-clause-run : goal.returns-clause-run
returns-clause-run c =
    let at = (goal.at.returns-clause-run c).After-workers in
    IfOk-weaker c.finish.result _ _
    (λ closed run roles parts.
    run_of_service c.args.policy.now (slots_items closed.words) c.args.pool roles c.args.workers.items
    (run (all_parts c.args.policy.now c.args.pool roles c.args.workers.items) (gathered at roles parts)))
    c.finish.ensures.run

pub returns-clause-all : goal.returns-clause-all
returns-clause-all c =
    let at = (goal.at.returns-clause-all c).After-workers in
    IfOk-weaker c.finish.result _ _
    (λ closed all roles parts.
    all (all_parts c.args.policy.now c.args.pool roles c.args.workers.items) (gathered at roles parts))
    c.finish.ensures.all

pub returns-clause-left : goal.returns-clause-left
returns-clause-left c =
    let at = (goal.at.returns-clause-left c).After-workers in
    IfErr-weaker c.finish.result _ _
    (λ left is roles parts.
    is (all_parts c.args.policy.now c.args.pool roles c.args.workers.items) (gathered at roles parts))
    c.finish.ensures.left
