use Rattle.std.proofs.Common.{◌≡◌, suc, List, ◌++◌, slice_get, refl, sym, ap, subst, ◌∙◌}
use Rattle.std.specs.Vec.Iter.{into_iter_items}
use Rattle.std.proofs.lemmas.List.{append_assoc, append-nil, nil_from_length}
use Rattle.hg_roles.specs.Roles.{Role}
use Rattle.hg_run_worker.specs.declared.worker.RunWorker.{RunWorker}
use Rattle.hg_run_worker.specs.Ending.{HasGathered, parts_of_worker}
use Rattle.hg_run_worker.specs.Service.{parts_of_workers}
use Rattle.hg_run_worker.proofs.ending.RunEnd.workers.Goals as goal

pub loop-worker-init : goal.loop-worker-init
loop-worker-init c =
    let gives : into_iter_items c.into_iter-worker-iterator.result ≡ c.args.workers.items =
    c.into_iter-worker-iterator.ensures.into_iter_gives.0 in
    record {
      same = refl;
      ready = λ k worker at.
          c.requires.ready k worker (ap (λ (ws : List RunWorker). slice_get ws k) (sym gives) ∙ at);
      of_it = λ k worker at.
          c.requires.of_it k worker (ap (λ (ws : List RunWorker). slice_get ws k) (sym gives) ∙ at);
      gathered = λ id roles has. (
        roles,
        has,
        ap (λ (ws : List RunWorker). roles ++ parts_of_workers ws) gives,
      );
    }

pub worker-requires-clause-ready : goal.worker-requires-clause-ready
worker-requires-clause-ready c =
    c.loop-worker.invariant.ready 0 c.in-Some.worker
    (ap (λ (ws : List RunWorker). slice_get ws 0) c.in-Some.ensures.steps.0)

pub worker-requires-clause-of_it : goal.worker-requires-clause-of_it
worker-requires-clause-of_it c =
    c.loop-worker.invariant.of_it 0 c.in-Some.worker
    (ap (λ (ws : List RunWorker). slice_get ws 0) c.in-Some.ensures.steps.0)

pub loop-worker-preserved : goal.loop-worker-preserved
loop-worker-preserved c =
    let was = c.loop-worker.invariant in
    let steps = c.in-Some.ensures.steps.0 in
    record {
      same = c.worker.ensures.same ∙ was.same;
      ready = λ k worker at.
          was.ready (suc k) worker (ap (λ (ws : List RunWorker). slice_get ws (suc k)) steps ∙ at);
      of_it = λ k worker at.
          was.of_it (suc k) worker (ap (λ (ws : List RunWorker). slice_get ws (suc k)) steps ∙ at);
      gathered = λ id roles has.
          let before = was.gathered id roles has in
          let theirs = parts_of_worker c.in-Some.worker in (
            before.0 ++ theirs,
            c.worker.ensures.gathered id before.0 before.1,
            append_assoc before.0 theirs (parts_of_workers (into_iter_items c.next.new.self))
                ∙ ap (λ (ws : List RunWorker). before.0 ++ parts_of_workers ws) (sym steps)
                ∙ before.2,
          );
    }

pub returns-clause-gathered : goal.returns-clause-gathered
returns-clause-gathered c id roles has =
    let all = c.loop-worker.invariant.gathered id roles has in
    subst (λ (rs : List Role). HasGathered id rs c.loop-worker.self)
    (sym (append-nil all.0)
    ∙ ap (λ (ws : List RunWorker). all.0 ++ parts_of_workers ws) (sym (nil_from_length (into_iter_items c.loop-worker.worker-iterator) (sym c.loop-worker.worker-iterator.rest.ok.0 ∙ c.in-None.ensures.steps.0))) ∙ all.2)
    all.1
