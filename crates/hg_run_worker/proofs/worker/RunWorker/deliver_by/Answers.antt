use Rattle.std.proofs.Common.{rules, ◌≡◌, ◌+◌, ◌*◌, ◌==◌, ℕ, [], ◌∷◌, ◌++◌, Option, Some, None, count_by}
use Rattle.std.proofs.Common.{Contains, refl, sym, ap, subst, ◌∙◌, arith}
use Rattle.std.specs.Arc.{arc_value}
use Rattle.hg_lists.specs.Inserts.{Inserts}
use Rattle.hg_place.specs.declared.Handle.{Handle}
use Rattle.hg_place.specs.declared.geometry.TheConstants.{SEGMENT_PLACES}
use Rattle.hg_place.specs.Places.{number_of, segment_of}
use Rattle.hg_machine.specs.declared.Event.TheVariants as event
use Rattle.hg_agreement.specs.Agreement.{Agrees}
use Rattle.hg_agreement.specs.Views.{View}
use Rattle.hg_remote.specs.Remote.{contents, slot}
use Rattle.hg_roles.specs.Roles.{Role, RoleAgrees, of_remote}
use Rattle.hg_run_table.specs.Calls.{IsWorkers, log_in}
use Rattle.hg_run_table.specs.JoinedCalls.{IsOthers, IsTiedTogether}
use Rattle.hg_run_table.proofs.NamedSteps.{deliver_tied}
use Rattle.hg_run_worker.specs.AtWork.{HasOwn, hand_place, view_in, worker_view}
use Rattle.hg_run_worker.specs.Lists.{IsForHand, deliver_answer, numbers_of, with_place}
use Rattle.hg_run_worker.proofs.Ready.{decided_beside}
use Rattle.hg_run_worker.proofs.Sending.{count_inserted, list_like, not_sent}
use Rattle.hg_run_worker.proofs.worker.RunWorker.deliver_by.Given.{Over}
use Rattle.hg_run_worker.proofs.worker.RunWorker.deliver_by.Goals as goal
use Rattle.hg_run_worker.proofs.worker.RunWorker.deliver_by.Goals.{In-Some}

pub returns-in_default-clause-called : goal.returns-in_default-clause-called
returns-in_default-clause-called g c =
    let s = c.args.self.now in
    let e = c.refuse.ensures in
    decided_beside s c.refuse.new.self None c.requires.ready
    (record {
      table = e.rest.table;
      policy = e.rest.policy;
      number = e.rest.number;
      now = e.rest.hand ∙ c.in_default.is;
    })
    (subst (HasOwn (arc_value s.table).table.shared.table_id) (sym e.rest.own) c.requires.ready.own)
    e.heap e.same (e.lives ∙ c.requires.ready.work.bare)
    (subst (IsWorkers c.refuse.new.self.call)
    (c.requires.before
    ∙ ap (λ (h : Option Handle). worker_view s.policy s.number h s.heap.segments) c.in_default.is)
    e.worker)
    (e.log
    ∙ ap (λ call. log_in s.call ++ call ∷ [])
    (c.requires.call ∙ ap (λ (h : Option Handle). (event.Deliver, deliver_answer h)) c.in_default.is))

-- what is in hand, and the list of its segment
module _ (g : Over) (c : In-Some g) where
  home : c.in-Some.handle.place.segment ≡ c.args.list.now.segment
  home = subst (λ (h : Option Handle). IsForHand h c.args.list.now.segment) c.in-Some.is c.requires.home

  numbered : number_of c.in-Some.handle.place
      ≡ c.args.list.now.segment * SEGMENT_PLACES
      + slot c.in-Some.handle.place.page c.in-Some.handle.place.index
  numbered = let is = home in omega (arith, is)

  of_segment : segment_of (number_of c.in-Some.handle.place) ≡ c.args.list.now.segment
  of_segment =
      let a = c.in-Some.handle.place.page_below in
      let b = c.in-Some.handle.place.index_below in
      let is = home in
      omega (arith, a, b, is)

  left_is : g.P.OtherPart.left
      ≡ of_remote c.args.list.now.segment
      (number_of c.in-Some.handle.place ∷ numbers_of c.args.list.now.segment c.args.list.now.list)
  left_is =
      c.requires.left
      ∙ ap
      (λ (h : Option Handle).
      of_remote c.args.list.now.segment
      (with_place h (numbers_of c.args.list.now.segment c.args.list.now.list)))
      c.in-Some.is

pub call_with-requires-clause-tied : goal.call_with-requires-clause-tied
call_with-requires-clause-tied g c =
    let s = c.args.self.now in
    let r = c.requires in
    let at = (goal.at.call_with-requires-clause-tied g c).In-Some in
    let place : ℕ = number_of c.in-Some.handle.place in
    let sent = numbers_of c.args.list.now.segment c.args.list.now.list in
    subst (λ (T : Type 0). T)
    (λ i.
    IsTiedTogether (sym r.ready.key i) (sym r.before i) (log_in s.call)
    (sym (r.call ∙ ap (λ (h : Option Handle). (event.Deliver, deliver_answer h)) c.in-Some.is) i)
    (sym r.after i) ((ap (λ n. of_remote n sent) (of_segment g at) ∙ sym r.role) i)
    ((ap (λ n. of_remote n (place ∷ sent)) (of_segment g at) ∙ sym (left_is g at)) i))
    (deliver_tied s.policy (view_in s) (log_in s.call) s.below place sent (ap hand_place c.in-Some.is))

pub unreachable-requires : goal.unreachable-requires
unreachable-requires g c =
    let s = c.args.self.now in
    let at = (goal.at.unreachable-requires g c).In-Some in
    let list = c.args.list.now in
    let a = c.call_with.ensures.agreed in
    let agrees : Agrees a.0 (view_in s) None =
    subst (λ (v : View). Agrees a.0 v None) c.requires.before a.1 in
    let there : Contains (contents list.list) (slot c.in-Some.handle.place.page c.in-Some.handle.place.index) =
    search rules in
    not_sent a.0 s.number list.segment (λ n. list.segment * SEGMENT_PLACES + n)
    (slot c.in-Some.handle.place.page c.in-Some.handle.place.index) (contents list.list)
    (agrees.hand ∙ ap hand_place c.in-Some.is ∙ ap Some (numbered g at))
    (subst (λ (role : Role). RoleAgrees role a.0) c.requires.role a.2) there

pub returns-clause-called : goal.returns-clause-called
returns-clause-called g c =
    let s = c.args.self.now in
    let e = c.call_with.ensures in
    decided_beside s _ None c.requires.ready
    (record { table = e.rest.table; policy = e.rest.policy; number = e.rest.number; now = refl })
    (subst (HasOwn (arc_value s.table).table.shared.table_id) (sym e.rest.own) c.requires.ready.own)
    e.heap e.same e.bare (subst (IsWorkers c.call_with.new.self.call) c.requires.after e.worker)
    (e.log
    ∙ ap (λ call. log_in s.call ++ call ∷ [])
    (c.requires.call ∙ ap (λ (h : Option Handle). (event.Deliver, deliver_answer h)) c.in-Some.is))

pub returns-clause-list : goal.returns-clause-list
returns-clause-list g c =
    let e = c.call_with.ensures in
    let at = (goal.at.returns-clause-list g c).In-Some in
    let list = c.args.list.now in
    let slot_sent : ℕ = slot c.in-Some.handle.place.page c.in-Some.handle.place.index in
    let put : Inserts slot_sent (contents list.list) (contents c.push.new.self) = search rules in
    record {
      same = e.of_it ∙ c.requires.ready.work.same;
      bare = e.bare_other;
      part =
          list_like c.call_with.new.other.seat.me.0.run list.segment
          (number_of c.in-Some.handle.place ∷ numbers_of list.segment list.list)
          (numbers_of list.segment c.push.new.self)
          (λ place.
          count_inserted (λ n. list.segment * SEGMENT_PLACES + n) (λ k. k == place) slot_sent
          (contents list.list) (contents c.push.new.self) put
          ∙ ap
          (λ n. count_by (λ k. k == place) (n ∷ numbers_of list.segment list.list))
          (sym (numbered g at)))
          (subst (IsOthers c.call_with.new.other) (left_is g at) e.other);
    }
