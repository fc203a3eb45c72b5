use Rattle.std.specs.Prelude.{option_map}
use Rattle.std.proofs.Common.{◌≡◌, ◌++◌, ◌∷◌, [], Option, Some, None, IfSome, false, sym, ap, subst, ◌∙◌}
use Rattle.std.specs.Arc.{arc_value}
use Rattle.hg_machine.specs.declared.Event.TheVariants as event
use Rattle.hg_segment.specs.Kept.{Kept}
use Rattle.hg_heap.specs.Held.{Held, is_held}
use Rattle.hg_pool.specs.Pooled.{next_in}
use Rattle.hg_roles.specs.Roles.{of_pool}
use Rattle.hg_run_table.specs.declared.segment.RunSegment.{RunSegment}
use Rattle.hg_run_table.specs.Calls.{IsWorkers, log_in}
use Rattle.hg_run_table.specs.JoinedCalls.{IsOthers, IsTiedTogether}
use Rattle.hg_run_worker.specs.AtWork.{KeepsRest, number_in, worker_view}
use Rattle.hg_run_worker.specs.Pools.{left_pool, pool_part, refill_answer, with_taken}
use Rattle.hg_run_worker.proofs.SlotsLent.{at_position}
use Rattle.hg_run_worker.proofs.Ready.{ready_from, still_ready}
use Rattle.hg_run_worker.proofs.NextTaken.{next_there}
use Rattle.hg_run_worker.proofs.Refills.{are_of_more, arena_low, more_seated, pool_again, refill_owes}
use Rattle.hg_run_worker.proofs.worker.RunWorker.refill_by.Goals as goal
use Rattle.hg_run_worker.proofs.worker.RunWorker.refill_by.Goals.{After-next_of, In-Some}
use Rattle.hg_run_worker.proofs.worker.RunWorker.refill_by.Given.{Over}

-- the refill is owed, as it is said
owed : (g : Over) (c : After-next_of g) (o : Option (Kept RunSegment)) → c.next_of.result ≡ o
    → IfSome o (λ one. is_held number_in c.args.self.now.heap.segments (number_in one.slots) ≡ false)
    → IsTiedTogether (arc_value c.args.self.now.table).table.shared.key g.W.OwnCall.before
    (log_in c.args.self.now.call) g.W.OwnCall.call g.W.OwnCall.after g.P.OtherPart.role
    g.P.OtherPart.left
owed g c o is unheld =
    let s = c.args.self.now in
    let p = c.args.pool.now in
    let r = c.requires in
    let next : next_in p.pool c.args.arena ≡ o = sym c.next_of.ensures.next ∙ is in
    subst (λ (T : Type 0). T)
    (λ i.
    IsTiedTogether (sym r.ready.key i) (sym r.before i) (log_in s.call)
    ((ap (λ (q : Option (Kept RunSegment)). (event.Refill c.args.arena, refill_answer (option_map (λ one. number_in one.slots) q))) (sym next) ∙ sym r.call) i)
    ((ap (λ (q : Option (Kept RunSegment)). worker_view s.policy s.number s.hand (with_taken q s.heap.segments)) (sym next) ∙ sym r.after) i)
    (sym r.role i)
    ((ap (λ (q : Option (Kept RunSegment)). of_pool (pool_part s.policy (left_pool q p.pool))) (sym next) ∙ sym r.left) i))
    (refill_owes s.policy s.number s.hand s.heap.segments p.pool c.args.arena r.pool.of
    c.has-there.ensures.right s.below (log_in s.call) o next unheld)

pub call_with-requires-clause-tied : goal.call_with-requires-clause-tied
call_with-requires-clause-tied g c =
    owed g (goal.at.call_with-requires-clause-tied g c).After-next_of None c.in_default.is tt

pub returns-in_default-clause-called : goal.returns-in_default-clause-called
returns-in_default-clause-called g c =
    let s = c.args.self.now in
    let e = c.call_with.ensures in
    let none : next_in c.args.pool.now.pool c.args.arena ≡ None = sym c.next_of.ensures.next ∙ c.in_default.is in
    record {
      ready =
          still_ready s c.call_with.new.self c.requires.ready e.rest
          (ap (λ (h : Held RunSegment). h.segments) e.heap) e.same e.bare
          (subst (IsWorkers c.call_with.new.self.call)
          (c.requires.after
          ∙ ap (λ (q : Option (Kept RunSegment)). worker_view s.policy s.number s.hand (with_taken q s.heap.segments)) none)
          e.worker);
      log =
          e.log
          ∙ ap (λ call. log_in s.call ++ call ∷ [])
          (c.requires.call
          ∙ ap (λ (q : Option (Kept RunSegment)). (event.Refill c.args.arena, refill_answer (option_map (λ one. number_in one.slots) q))) none);
      rest = e.rest;
    }

pub returns-in_default-clause-pool : goal.returns-in_default-clause-pool
returns-in_default-clause-pool g c =
    let s = c.args.self.now in
    let p = c.args.pool.now in
    let e = c.call_with.ensures in
    let none : next_in p.pool c.args.arena ≡ None = sym c.next_of.ensures.next ∙ c.in_default.is in
    pool_again s.policy None p _ c.requires.pool c.in_default.ensures.unchanged
    (e.of_it ∙ c.requires.ready.work.same) e.bare_other
    (subst (IsOthers c.call_with.new.other)
    (c.requires.left
    ∙ ap (λ (q : Option (Kept RunSegment)). of_pool (pool_part s.policy (left_pool q p.pool))) none)
    e.other)

-- the segment that is taken
taken_there : (g : Over) (c : In-Some g) → next_in c.args.pool.now.pool c.args.arena ≡ Some c.in-Some.one
taken_there g c = sym c.next_of.ensures.next ∙ c.in-Some.is

pub never_twice-requires-clause-same : goal.never_twice-requires-clause-same
never_twice-requires-clause-same g c =
    (c.requires.pool.seated c.in-Some.one
    (next_there c.args.pool.now.pool c.args.arena c.in-Some.one
    (taken_there g (goal.at.never_twice-requires-clause-same g c).In-Some))).same

pub never_twice-requires-clause-of_it : goal.never_twice-requires-clause-of_it
never_twice-requires-clause-of_it g c =
    let there : _ ≡ Some c.in-Some-release.other = sym c.release.ensures.released ∙ c.in-Some-release.is in
    (c.requires.ready.work.seated _ c.in-Some-release.other
    (at_position c.args.self.now.heap.segments c.number-segment.result c.in-Some-release.other there)).same

pub call_with-requires-2-clause-tied : goal.call_with-requires-2-clause-tied
call_with-requires-2-clause-tied g c =
    let same : c.release.new.self ≡ c.args.self.now.heap = c.in_default-release.ensures.unchanged in
    owed g (goal.at.call_with-requires-2-clause-tied g c).After-next_of (Some c.in-Some.one) c.in-Some.is
    (ap (λ (h : Held RunSegment). is_held number_in h.segments (number_in c.in-Some.one.slots)) (sym same)
    ∙ ap (is_held number_in c.release.new.self.segments) (sym c.number-segment.ensures)
    ∙ c.release.ensures.gone)

pub adopt-requires-clause-arena : goal.adopt-requires-clause-arena
adopt-requires-clause-arena g c =
    arena_low c.args.self.now.policy (number_in c.in-Some.one.slots) c.in-Some.one.arena
    c.workers-workers.ensures.sound
    (c.requires.pool.of.arena c.in-Some.one
    (next_there c.args.pool.now.pool c.args.arena c.in-Some.one
    (taken_there g (goal.at.adopt-requires-clause-arena g c).In-Some)))

pub returns-clause-called : goal.returns-clause-called
returns-clause-called g c =
    let s = c.args.self.now in
    let p = c.args.pool.now in
    let one = c.in-Some.one in
    let e = c.call_with-2.ensures in
    let next = taken_there g (goal.at.returns-clause-called g c).In-Some in
    let there = next_there p.pool c.args.arena one next in
    let now : c.adopt.new.self.segments ≡ s.heap.segments ++ one ∷ [] =
    c.adopt.ensures.segments
    ∙ ap (λ (h : Held RunSegment). h.segments ++ one ∷ []) (e.heap ∙ c.in_default-release.ensures.unchanged) in
    let rest : KeepsRest s _ =
    record { table = e.rest.table; policy = e.rest.policy; number = e.rest.number; own = e.rest.own; hand = e.rest.hand } in
    record {
      ready =
          ready_from s _ (s.heap.segments ++ one ∷ []) c.requires.ready rest now
          (are_of_more p.pool s.heap.segments one there c.requires.pool.seated c.requires.pool.of
          c.requires.ready.of)
          (record {
            same = e.same ∙ c.requires.ready.work.same;
            bare = e.bare;
            worker =
                subst (IsWorkers c.call_with-2.new.self.call)
                (c.requires.after
                ∙ ap (λ (q : Option (Kept RunSegment)). worker_view s.policy s.number s.hand (with_taken q s.heap.segments)) next)
                e.worker;
            seated =
                more_seated p.pool s.heap.segments one there c.requires.pool.seated c.requires.pool.of
                c.requires.ready.work.seated;
          });
      log =
          e.log
          ∙ ap (λ call. log_in s.call ++ call ∷ [])
          (c.requires.call
          ∙ ap (λ (q : Option (Kept RunSegment)). (event.Refill c.args.arena, refill_answer (option_map (λ one. number_in one.slots) q))) next
          ∙ ap (λ n. (event.Refill c.args.arena, refill_answer (Some n))) (sym c.number-segment.ensures));
      rest = rest;
    }

pub returns-clause-pool : goal.returns-clause-pool
returns-clause-pool g c =
    let s = c.args.self.now in
    let p = c.args.pool.now in
    let e = c.call_with-2.ensures in
    let next = taken_there g (goal.at.returns-clause-pool g c).In-Some in
    pool_again s.policy (Some c.in-Some.one) p _ c.requires.pool c.in-Some.ensures.left
    (e.of_it ∙ c.requires.ready.work.same) e.bare_other
    (subst (IsOthers c.call_with-2.new.other)
    (c.requires.left
    ∙ ap (λ (q : Option (Kept RunSegment)). of_pool (pool_part s.policy (left_pool q p.pool))) next)
    e.other)
