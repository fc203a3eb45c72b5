use Rattle.std.proofs.Common.{◌≡◌, [], ◌∷◌, ◌++◌, None, refl, sym, ap, subst, ◌∙◌}
use Rattle.hg_machine.specs.declared.Answer.TheVariants as answer
use Rattle.hg_machine.specs.declared.Event.TheVariants as event
use Rattle.hg_agreement.specs.Agreement.{Agrees, Ties}
use Rattle.hg_agreement.specs.Views.{View}
use Rattle.hg_heap.specs.Held.{Held, kinds}
use Rattle.hg_heap.proofs.PolicyKept.{kinds_keep_policy}
use Rattle.hg_run_table.specs.declared.segment.RunSegment.{RunSegment}
use Rattle.hg_run_table.specs.Calls.{IsTiedAlone, log_in}
use Rattle.hg_run_worker.specs.AtWork.{IsReady, KeepsRest, hand_generation, hand_place, number_in, view_in, worker_view}
use Rattle.hg_run_worker.proofs.Collected.{seated_still}
use Rattle.hg_run_worker.proofs.Ready.{holds_same, ready_from, view_again}
use Rattle.hg_run_worker.proofs.worker.RunWorker.collect_by.Goals as goal

pub call_alone-requires-clause-tied : goal.call_alone-requires-clause-tied
call_alone-requires-clause-tied g c =
    let s = c.args.self.now in
    let key = c.requires.ready.key in
    let now = worker_view s.policy s.number s.hand c.collect-pages.new.self.segments in
    subst (λ (T : Type 0). T)
    (λ i.
    IsTiedAlone (sym key i) (sym c.requires.before i)
    ((ap (λ n. (event.Collect, answer.Pages n)) c.collect-pages.ensures.pages ∙ sym c.requires.call) i)
    now)
    (record {
      own = record { worker = s.below; same = refl; own = refl };
      none = λ other lt. refl;
      ties =
          c.collect-pages.ensures.ties s.policy None c.requires.ready.of s.number (hand_place s.hand)
          (hand_generation s.hand) s.below;
    })

pub returns-clause-called : goal.returns-clause-called
returns-clause-called g c =
    let s = c.args.self.now in
    let e = c.call_alone.ensures in
    let now : c.call_alone.new.self.heap.segments ≡ c.collect-pages.new.self.segments =
    ap (λ (h : Held RunSegment). h.segments) e.heap in
    let rest : KeepsRest s c.call_alone.new.self =
    record { table = e.rest.table; policy = e.rest.policy; number = e.rest.number; own = e.rest.own; hand = e.rest.hand } in
    let same = ap (kinds number_in) now ∙ c.collect-pages.ensures.kinds in
    let ready : IsReady c.call_alone.new.self =
    ready_from s c.call_alone.new.self c.collect-pages.new.self.segments c.requires.ready rest now
    (kinds_keep_policy number_in s.policy s.heap.segments c.collect-pages.new.self.segments
    c.collect-pages.ensures.kinds c.requires.ready.of)
    (record {
      same = e.same ∙ c.requires.ready.work.same;
      bare = e.lives ∙ c.requires.ready.work.bare;
      worker = e.worker;
      seated =
          seated_still s.heap.segments c.collect-pages.new.self.segments
          c.collect-pages.ensures.collected.rest c.requires.ready.work.seated;
    }) in
    let log : log_in c.call_alone.new.self.call ≡ log_in s.call
    ++ (event.Collect, answer.Pages c.collect-pages.result) ∷ [] =
    e.log
    ∙ ap (λ call. log_in s.call ++ call ∷ [])
    (c.requires.call ∙ ap (λ n. (event.Collect, answer.Pages n)) (sym c.collect-pages.ensures.pages)) in
    record {
      called = record { ready = ready; log = log; rest = rest };
      holds = holds_same s c.call_alone.new.self same;
      tied = record {
        shown = None;
        left = None;
        state = e.agreed.0;
        met = subst (λ (v : View). Agrees e.agreed.0 v None) c.requires.before e.agreed.1;
        ties =
            subst
            (λ (v : View).
            Ties (view_in s) None event.Collect (answer.Pages c.collect-pages.result) v None)
            (sym
            (view_again s c.call_alone.new.self rest
            ∙ ap (worker_view s.policy s.number s.hand) now))
            (c.collect-pages.ensures.ties s.policy None c.requires.ready.of s.number (hand_place s.hand)
            (hand_generation s.hand) s.below);
      };
    }
