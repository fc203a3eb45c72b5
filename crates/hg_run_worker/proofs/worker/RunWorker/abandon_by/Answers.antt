use Rattle.std.proofs.Common.{◌≡◌, ◌++◌, ◌∷◌, [], Bool, Option, Some, None, Contains, not, is_some, sym, ap, subst, ◌∙◌}
use Rattle.hg_machine.specs.First.{first_of}
use Rattle.hg_machine.specs.declared.Answer.TheVariants as answer
use Rattle.hg_machine.specs.declared.Event.TheVariants as event
use Rattle.hg_segment.specs.Kept.{Kept}
use Rattle.hg_heap.specs.Held.{Held, segment_in}
use Rattle.hg_heap.proofs.Founds.{Contains-get}
use Rattle.hg_heap.proofs.ViewRoom.{found_one, view_holds}
use Rattle.hg_roles.specs.Roles.{of_pool}
use Rattle.hg_run_table.specs.declared.segment.RunSegment.{RunSegment}
use Rattle.hg_run_table.specs.Calls.{IsRefused, IsWorkers, log_in}
use Rattle.hg_run_table.specs.JoinedCalls.{IsOthers, IsTiedTogether}
use Rattle.hg_run_table.proofs.NamedSteps.{abandon_tied}
use Rattle.hg_run_worker.specs.AtWork.{KeepsRest, number_in, records_in, worker_view}
use Rattle.hg_run_worker.specs.Pools.{abandon_answer, pool_part, pooled_in, with_orphan}
use Rattle.hg_run_worker.proofs.Abandons.{let_go_like, put_back_like}
use Rattle.hg_run_worker.proofs.SlotsLent.{at_position}
use Rattle.hg_run_worker.proofs.Ready.{ready_from, still_ready}
use Rattle.hg_run_worker.proofs.DecidedLike.{tied_like}
use Rattle.hg_run_worker.proofs.Refills.{are_of_part, at_place, pool_with, was_there}
use Rattle.hg_run_worker.proofs.worker.RunWorker.abandon_by.Goals as goal
use Rattle.hg_run_worker.proofs.worker.RunWorker.abandon_by.Goals.{In-Some}
use Rattle.hg_run_worker.proofs.worker.RunWorker.abandon_by.Given.{Over}

pub refuse-requires-clause-refused : goal.refuse-requires-clause-refused
refuse-requires-clause-refused g c =
    let s = c.args.self.now in
    let none : segment_in number_in s.heap.segments c.args.segment ≡ None =
    sym c.release.ensures.released ∙ c.in_default.is in
    subst (λ (T : Type 0). T)
    (λ i.
    IsRefused (sym c.requires.ready.key i) (sym c.requires.before i)
    ((ap (λ (o : Option (Kept RunSegment)). (event.Abandon c.args.segment, abandon_answer (is_some o))) (sym none) ∙ sym c.requires.call) i))
    (record {
      worker = s.below;
      refused = λ m agrees.
          ap (λ (b : Bool). first_of ((not b, answer.NotHeld) ∷ []))
          (agrees.holding c.args.segment
          ∙ view_holds number_in records_in s.heap.segments c.args.segment
          ∙ ap (λ (o : Option (Kept RunSegment)). is_some o) none);
    })

pub returns-in_default-clause-called : goal.returns-in_default-clause-called
returns-in_default-clause-called g c =
    let s = c.args.self.now in
    let e = c.refuse.ensures in
    let none : segment_in number_in s.heap.segments c.args.segment ≡ None =
    sym c.release.ensures.released ∙ c.in_default.is in
    let rest : KeepsRest s c.refuse.new.self =
    record { table = e.rest.table; policy = e.rest.policy; number = e.rest.number; own = e.rest.own; hand = e.rest.hand } in
    record {
      ready =
          still_ready s c.refuse.new.self c.requires.ready rest
          (ap (λ (h : Held RunSegment). h.segments) (e.heap ∙ c.in_default.ensures.unchanged)) e.same
          (e.lives ∙ c.requires.ready.work.bare)
          (subst (IsWorkers c.refuse.new.self.call) c.requires.before e.worker);
      log =
          e.log
          ∙ ap (λ call. log_in s.call ++ call ∷ [])
          (c.requires.call
          ∙ ap (λ (o : Option (Kept RunSegment)). (event.Abandon c.args.segment, abandon_answer (is_some o))) none);
      rest = rest;
    }

-- the segment that goes
goes : (g : Over) (c : In-Some g)
    → segment_in number_in c.args.self.now.heap.segments c.args.segment ≡ Some c.in-Some.one
goes g c = sym c.release.ensures.released ∙ c.in-Some.is

pub never_twice-requires-clause-number : goal.never_twice-requires-clause-number
never_twice-requires-clause-number g c =
    c.in-Some.ensures.number
    ∙ sym
    (found_one number_in records_in (pooled_in c.args.pool.now.pool) c.args.segment c.in-Some-pick.other
    (sym c.pick.ensures.picked ∙ c.in-Some-pick.is)).1

pub never_twice-requires-clause-same : goal.never_twice-requires-clause-same
never_twice-requires-clause-same g c =
    (c.requires.ready.work.seated _ c.in-Some.one
    (at_position c.args.self.now.heap.segments c.args.segment c.in-Some.one
    (goes g (goal.at.never_twice-requires-clause-same g c).In-Some))).same

pub never_twice-requires-clause-of_it : goal.never_twice-requires-clause-of_it
never_twice-requires-clause-of_it g c =
    (c.requires.pool.seated c.in-Some-pick.other
    (found_one number_in records_in (pooled_in c.args.pool.now.pool) c.args.segment c.in-Some-pick.other
    (sym c.pick.ensures.picked ∙ c.in-Some-pick.is)).0).same

pub call_with-requires-clause-tied : goal.call_with-requires-clause-tied
call_with-requires-clause-tied g c =
    let s = c.args.self.now in
    let p = c.args.pool.now in
    let r = c.requires in
    let one = c.in-Some.one in
    let there = goes g (goal.at.call_with-requires-clause-tied g c).In-Some in
    subst (λ (T : Type 0). T)
    (λ i.
    IsTiedTogether (sym r.ready.key i) (sym r.before i) (log_in s.call)
    ((ap (λ (o : Option (Kept RunSegment)). (event.Abandon c.args.segment, abandon_answer (is_some o))) (sym there) ∙ sym r.call) i)
    ((ap (worker_view s.policy s.number s.hand) c.release.ensures.segments ∙ sym r.after) i)
    (sym r.role i)
    ((ap (λ (o : Option (Kept RunSegment)). of_pool (pool_part s.policy (with_orphan o p.pool))) (sym there) ∙ sym r.left) i))
    (tied_like
    (let_go_like s.policy s.number s.hand s.heap.segments c.release.new.self.segments c.args.segment
    c.release.ensures.gone c.release.ensures.others)
    (put_back_like s.policy s.number s.hand s.heap.segments p.pool c.args.segment one there
    c.in-Some.ensures.number (sym c.pick.ensures.picked ∙ c.in_default-pick.is))
    (abandon_tied s.policy (worker_view s.policy s.number s.hand s.heap.segments) (log_in s.call) s.below
    (pool_part s.policy p.pool) c.args.segment
    (view_holds number_in records_in s.heap.segments c.args.segment
    ∙ ap (λ (o : Option (Kept RunSegment)). is_some o) there)))

pub returns-clause-called : goal.returns-clause-called
returns-clause-called g c =
    let s = c.args.self.now in
    let e = c.call_with.ensures in
    let there = goes g (goal.at.returns-clause-called g c).In-Some in
    let was : (k : Kept RunSegment) → Contains c.release.new.self.segments k → Contains s.heap.segments k =
    λ k. was_there s.heap.segments c.release.new.self.segments c.in-Some.one k c.in-Some.ensures.rest in
    let rest : KeepsRest s c.call_with.new.self =
    record { table = e.rest.table; policy = e.rest.policy; number = e.rest.number; own = e.rest.own; hand = e.rest.hand } in
    record {
      ready =
          ready_from s c.call_with.new.self c.release.new.self.segments c.requires.ready rest
          (ap (λ (h : Held RunSegment). h.segments) e.heap)
          (are_of_part s.policy s.heap.segments c.release.new.self.segments was c.requires.ready.of)
          (record {
            same = e.same ∙ c.requires.ready.work.same;
            bare = e.bare;
            worker =
                subst (IsWorkers c.call_with.new.self.call)
                (c.requires.after
                ∙ sym (ap (worker_view s.policy s.number s.hand) c.release.ensures.segments))
                e.worker;
            seated = λ at k here.
                let before = was k (Contains-get c.release.new.self.segments at k here) in
                c.requires.ready.work.seated before.0 k (at_place s.heap.segments k before);
          });
      log =
          e.log
          ∙ ap (λ call. log_in s.call ++ call ∷ [])
          (c.requires.call
          ∙ ap (λ (o : Option (Kept RunSegment)). (event.Abandon c.args.segment, abandon_answer (is_some o))) there);
      rest = rest;
    }

pub returns-clause-pool : goal.returns-clause-pool
returns-clause-pool g c =
    let s = c.args.self.now in
    let p = c.args.pool.now in
    let e = c.call_with.ensures in
    let one = c.in-Some.one in
    let there = goes g (goal.at.returns-clause-pool g c).In-Some in
    let held = (found_one number_in records_in s.heap.segments c.args.segment one there).0 in
    let put : c.put_orphan.new.self ≡ with_orphan (Some one) p.pool =
    (λ i. record { orphans = c.put_orphan.ensures.orphans i; fresh = c.put_orphan.ensures.fresh i })
    ∙ ap (with_orphan (Some one)) c.in_default-pick.ensures.unchanged in
    pool_with s.policy one p _ c.requires.pool
    (c.requires.ready.of.arena one held, c.requires.ready.of.greatest one held)
    (c.requires.ready.work.seated held.0 one (at_place s.heap.segments one held))
    put (e.of_it ∙ c.requires.ready.work.same) e.bare_other
    (subst (IsOthers c.call_with.new.other)
    (c.requires.left
    ∙ ap (λ (o : Option (Kept RunSegment)). of_pool (pool_part s.policy (with_orphan o p.pool))) there)
    e.other)
