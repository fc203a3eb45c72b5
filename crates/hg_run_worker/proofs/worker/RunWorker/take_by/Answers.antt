use Rattle.std.proofs.Common.{◌≡◌, ℕ, Bool, true, false, not, [], ◌∷◌, ◌++◌, length, is_some, None, refl, sym, ap, subst, ◌∙◌}
use Rattle.std.specs.Arc.{arc_value}
use Rattle.std.proofs.lemmas.List.{length-map}
use Rattle.hg_machine.specs.First.{first_of}
use Rattle.hg_machine.specs.declared.Answer.TheVariants as answer
use Rattle.hg_machine.specs.declared.Event.TheVariants as event
use Rattle.hg_agreement.specs.Agreement.{Agrees}
use Rattle.hg_agreement.specs.Views.{View}
use Rattle.hg_remote.specs.Remote.{Remote, contents}
use Rattle.hg_segment.specs.Kept.{Kept}
use Rattle.hg_heap.specs.Held.{Held, is_held}
use Rattle.hg_heap.proofs.ViewRoom.{view_holds}
use Rattle.hg_roles.specs.Roles.{Role, RoleAgrees, of_remote}
use Rattle.hg_run_table.specs.declared.segment.RunSegment.{RunSegment}
use Rattle.hg_run_table.specs.Asked.{is_asked}
use Rattle.hg_run_table.specs.Calls.{IsRefused, IsWorkers, log_in}
use Rattle.hg_run_table.specs.JoinedCalls.{IsOthers, IsTiedTogether}
use Rattle.hg_run_table.proofs.NamedSteps.{take_tied}
use Rattle.hg_run_worker.specs.AtWork.{AreSeated, KeepsRest, number_in, records_in, view_in}
use Rattle.hg_run_worker.specs.Lent.{IsLentQuietly}
use Rattle.hg_run_worker.specs.Lists.{left_list, left_places, numbers_of, take_answer, taken_view}
use Rattle.hg_run_worker.proofs.Ready.{ready_again, still_ready}
use Rattle.hg_run_worker.proofs.SlotsLent.{one_held}
use Rattle.hg_run_worker.proofs.TakesHome.{IsTake, at_work, has_loan, held_still, home_whole, kinds_same, logged, many, taking}
use Rattle.hg_run_worker.proofs.worker.RunWorker.take_by.Given.{Over}
use Rattle.hg_run_worker.proofs.worker.RunWorker.take_by.Goals as goal
use Rattle.hg_run_worker.proofs.worker.RunWorker.take_by.Goals.{After-lend_quietly}

pub refuse-requires-clause-refused : goal.refuse-requires-clause-refused
refuse-requires-clause-refused g c =
    let s = c.args.self.now in
    let unheld : is_held number_in s.heap.segments c.args.list.now.segment ≡ false =
    sym c.holds.ensures ∙ c.if-not-holds.true in
    subst (λ (T : Type 0). T)
    (λ i.
    IsRefused (sym c.requires.ready.key i) (sym c.requires.before i)
    ((ap
    (λ (b : Bool).
    (event.Take c.args.list.now.segment, take_answer b (length (contents c.args.list.now.list))))
    (sym unheld) ∙ sym c.requires.call) i))
    (record {
      worker = s.below;
      refused = λ m agrees.
          ap (λ (b : Bool). first_of ((not b, answer.NotHeld) ∷ []))
          (agrees.holding c.args.list.now.segment
          ∙ view_holds number_in records_in s.heap.segments c.args.list.now.segment ∙ unheld);
    })

pub returns-then-not-holds-clause-called : goal.returns-then-not-holds-clause-called
returns-then-not-holds-clause-called g c =
    let s = c.args.self.now in
    let e = c.refuse.ensures in
    let unheld : is_held number_in s.heap.segments c.args.list.now.segment ≡ false =
    sym c.holds.ensures ∙ c.if-not-holds.true in
    record {
      ready =
          still_ready s c.refuse.new.self c.requires.ready e.rest
          (ap (λ (h : Held RunSegment). h.segments) e.heap) e.same
          (e.lives ∙ c.requires.ready.work.bare)
          (subst (IsWorkers c.refuse.new.self.call) c.requires.before e.worker);
      log =
          e.log
          ∙ ap (λ call. log_in s.call ++ call ∷ [])
          (c.requires.call
          ∙ ap
          (λ (b : Bool).
          (event.Take c.args.list.now.segment, take_answer b (length (contents c.args.list.now.list)))) unheld);
      rest = e.rest;
    }

pub call_with-requires-clause-tied : goal.call_with-requires-clause-tied
call_with-requires-clause-tied g c =
    let s = c.args.self.now in
    let r = c.requires in
    let segment : ℕ = c.args.list.now.segment in
    let sent = numbers_of segment c.args.list.now.list in
    let held : is_held number_in s.heap.segments segment ≡ true =
    sym c.holds.ensures ∙ c.if-not-holds.false in
    let many : length sent ≡ length (contents c.args.list.now.list) = length-map (contents c.args.list.now.list) _ in
    subst (λ (T : Type 0). T)
    (λ i.
    IsTiedTogether (sym r.ready.key i) (sym r.before i) (log_in s.call)
    ((ap (λ (n : ℕ). (event.Take segment, answer.Taken n)) many
    ∙ ap (λ (b : Bool). (event.Take segment, take_answer b (length (contents c.args.list.now.list)))) (sym held)
    ∙ sym r.call) i)
    ((ap (λ (b : Bool). taken_view b (view_in s) sent) (sym held) ∙ sym r.after) i)
    (sym r.role i)
    ((ap (λ (b : Bool). of_remote segment (left_places b sent)) (sym held) ∙ sym r.left) i))
    (take_tied s.policy (view_in s) (log_in s.call) s.below segment sent
    (view_holds number_in records_in s.heap.segments segment ∙ held))

pub lend_quietly-requires-clause-seated : goal.lend_quietly-requires-clause-seated
lend_quietly-requires-clause-seated g c =
    subst (λ (T : Type 0). T)
    (λ i.
    AreSeated (sym c.call_with.ensures.rest.table i).table.shared.table_id
    (sym c.call_with.ensures.heap i).segments)
    c.requires.ready.work.seated

-- the Take is made, and the part is lent
made : (g : Over) (c : After-lend_quietly g)
    → IsTake (arc_value c.args.self.now.table).table.shared.table_id c.args.self.now.policy
    c.args.self.now.number c.args.self.now.hand c.args.list.now.segment c.call_with.new.self.call
    c.args.list.now.list c.args.self.now.heap.segments c.lend_quietly.new.self.heap.segments
made g c =
    let s = c.args.self.now in
    let segment : ℕ = c.args.list.now.segment in
    let places = numbers_of segment c.args.list.now.list in
    let held : is_held number_in s.heap.segments segment ≡ true =
    sym c.holds.ensures ∙ c.if-not-holds.false in
    let a = c.call_with.ensures.agreed in
    record {
      held = held;
      once = c.settled.ensures.once;
      seated = c.requires.ready.work.seated;
      right = c.is_empty-is_empty.ensures.right;
      state = a.0;
      agrees = subst (λ (v : View). Agrees a.0 v None) c.requires.before a.1;
      sent = subst (λ (role : Role). RoleAgrees role a.0) c.requires.role a.2;
      lent =
          subst
          (λ (h : Held RunSegment).
          IsLentQuietly segment h.segments c.call_with.new.self.call
          c.lend_quietly.new.self.heap.segments)
          c.call_with.ensures.heap c.lend_quietly.ensures.lent;
      worker =
          subst (IsWorkers c.call_with.new.self.call)
          (c.requires.after ∙ ap (λ (b : Bool). taken_view b (view_in s) places) held)
          c.call_with.ensures.worker;
    }

pub take-count-requires : goal.take-count-requires
take-count-requires g c =
    let t = taking (made g (goal.at.take-count-requires g c).After-lend_quietly) in
    record {
      quiet = λ k there.
          let is : t.one ≡ k =
          one_held c.lend_quietly.new.self.heap.segments c.args.list.now.segment t.one k t.there there in
          subst (λ (k : Kept RunSegment). is_asked k.slots.seat.seat.me.0.run ≡ false) is t.quiet;
    }

-- it is held still
held_lent : (g : Over) (c : After-lend_quietly g)
    → is_held number_in c.lend_quietly.new.self.heap.segments c.args.list.now.segment ≡ true
held_lent g c = ap is_some (taking (made g c)).there

pub take_back-requires-clause-held : goal.take_back-requires-clause-held
take_back-requires-clause-held g c =
    let at = (goal.at.take_back-requires-clause-held g c).After-lend_quietly in
    let e = c.take-count.ensures in
    held_still (made g at) c.lend_quietly.new.self.heap c.take-count.new.self refl
    (e.taken (held_lent g at)) (e.whole (held_lent g at))

pub take_back-requires-clause-loan : goal.take_back-requires-clause-loan
take_back-requires-clause-loan g c =
    let at = (goal.at.take_back-requires-clause-loan g c).After-lend_quietly in
    let e = c.take-count.ensures in
    has_loan (made g at) c.lend_quietly.new.self.heap c.take-count.new.self refl
    (e.taken (held_lent g at)) (e.whole (held_lent g at))

pub returns-clause-called : goal.returns-clause-called
returns-clause-called g c =
    let s = c.args.self.now in
    let at = (goal.at.returns-clause-called g c).After-lend_quietly in
    let e = c.take-count.ensures in
    let with = c.call_with.ensures.rest in
    let lend = c.lend_quietly.ensures.rest in
    let back = c.take_back.ensures.rest in
    let old = c.lend_quietly.new.self.heap in
    let new = c.take-count.new.self in
    let takes = e.taken (held_lent g at) in
    let whole = e.whole (held_lent g at) in
    let sent : ℕ = length (contents c.args.list.now.list) in
    let held = (made g at).held in
    let rest : KeepsRest s c.take_back.new.self = record {
      table = back.table ∙ lend.table ∙ with.table;
      policy = back.policy ∙ lend.policy ∙ with.policy;
      number = back.number ∙ lend.number ∙ with.number;
      own = back.own ∙ lend.own ∙ with.own;
      hand = back.hand ∙ lend.hand ∙ with.hand;
    } in
    record {
      ready =
          ready_again s c.take_back.new.self c.requires.ready rest
          (kinds_same (made g at) old new refl takes whole c.take_back.ensures.back)
          (at_work (made g at) old new refl takes whole c.take_back.ensures.back);
      log =
          logged (made g at) old new refl takes whole c.take_back.ensures.back
          ∙ c.call_with.ensures.log
          ∙ ap (λ call. log_in s.call ++ call ∷ [])
          (c.requires.call
          ∙ ap (λ (b : Bool). (event.Take c.args.list.now.segment, take_answer b sent)) held
          ∙ ap (λ (n : ℕ). (event.Take c.args.list.now.segment, answer.Taken n))
          (sym (many (made g at) old new refl takes whole)));
      rest = rest;
    }

pub returns-clause-answered : goal.returns-clause-answered
returns-clause-answered g c =
    let at = (goal.at.returns-clause-answered g c).After-lend_quietly in
    let e = c.take-count.ensures in
    ap answer.Taken
    (many (made g at) c.lend_quietly.new.self.heap c.take-count.new.self refl
    (e.taken (held_lent g at)) (e.whole (held_lent g at)))
    ∙ ap (λ (b : Bool). take_answer b (length (contents c.args.list.now.list))) (sym (made g at).held)

pub returns-clause-list : goal.returns-clause-list
returns-clause-list g c =
    let at = (goal.at.returns-clause-list g c).After-lend_quietly in
    let segment : ℕ = c.args.list.now.segment in
    let places = numbers_of segment c.args.list.now.list in
    record {
      same = c.call_with.ensures.of_it ∙ c.requires.ready.work.same;
      bare = c.call_with.ensures.bare_other;
      part =
          subst (λ (remote : Remote). IsOthers c.call_with.new.other (of_remote segment (numbers_of segment remote)))
          (sym (c.take-count.ensures.empty (held_lent g at)))
          (subst (IsOthers c.call_with.new.other)
          (c.requires.left
          ∙ ap (λ (b : Bool). of_remote segment (left_places b places)) (made g at).held)
          c.call_with.ensures.other);
    }

pub returns-clause-left : goal.returns-clause-left
returns-clause-left g c =
    let at = (goal.at.returns-clause-left g c).After-lend_quietly in
    c.take-count.ensures.empty (held_lent g at)
    ∙ ap (λ (b : Bool). left_list b c.args.list.now.list) (sym (made g at).held)

pub returns-clause-home : goal.returns-clause-home
returns-clause-home g c = λ held.
    let at = (goal.at.returns-clause-home g c).After-lend_quietly in
    let e = c.take-count.ensures in
    home_whole (made g at) c.lend_quietly.new.self.heap c.take-count.new.self refl
    (e.taken (held_lent g at)) (e.whole (held_lent g at)) c.take_back.ensures.back
