use Rattle.std.proofs.Common.{List, [], ◌∷◌, ◌++◌, subst}
use Rattle.std.proofs.lemmas.List.{append_assoc}
use Rattle.hg_roles.specs.Roles.{Role, of_worker}
use Rattle.hg_run_table.specs.Calls.{log_in}
use Rattle.hg_run_worker.specs.AtWork.{IsSeated, view_in}
use Rattle.hg_run_worker.specs.Ending.{HasGathered, parts_of_segments}
use Rattle.hg_run_worker.proofs.ending.RunEnd.worker.Goals as goal

pub held-requires-clause-seated : goal.held-requires-clause-seated
held-requires-clause-seated c at k there =
    subst (λ id. IsSeated id k.slots) c.requires.of_it (c.requires.ready.work.seated at k there)

pub returns-clause-gathered : goal.returns-clause-gathered
returns-clause-gathered c id roles has =
    let w = c.args.worker in
    let own : Role = of_worker (view_in w) (log_in w.call) in
    subst (λ (rs : List Role). HasGathered id rs c.held.new.self)
    (append_assoc roles (own ∷ []) (parts_of_segments w.heap.segments))
    (c.held.ensures.gathered id (roles ++ own ∷ [])
    (c.part.ensures.gathered id roles own has c.requires.ready.work.worker))
