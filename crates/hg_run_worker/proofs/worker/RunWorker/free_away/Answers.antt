use Rattle.std.proofs.Common.{◌≡◌, ◌==◌, ℕ, ◌+◌, Bool, true, false, not, cond, [], ◌∷◌, ◌++◌, Option, Some, None}
use Rattle.std.proofs.Common.{is_some, option_map, eq-eqb, ne_eqb, refl, sym, ap, subst, ◌∙◌, arith}
use lib.ListN.{get_elem?}
use Rattle.hg_place.specs.declared.Right.TheVariants as right
use Rattle.hg_place.specs.Lives.{IsSlotWord}
use Rattle.hg_machine.specs.declared.Answer.{Answer}
use Rattle.hg_machine.specs.declared.Event.TheVariants as event
use Rattle.hg_machine.specs.declared.Rule.{Rule}
use Rattle.hg_machine.specs.Policy.{arena_of}
use Rattle.hg_machine.specs.State.{State}
use Rattle.hg_agreement.specs.Agreement.{Agrees, Ties}
use Rattle.hg_agreement.specs.Views.{View}
use Rattle.hg_heap.specs.Answers.{away_answer}
use Rattle.hg_heap.specs.Reading.{use_denial}
use Rattle.hg_heap.specs.Ties.{shown_at}
use Rattle.hg_heap.proofs.Options.{none_is}
use Rattle.hg_table.specs.View as lives
use Rattle.std.specs.Arc.{arc_value}
use Rattle.hg_place.specs.Places.{number_of}
use Rattle.hg_table.specs.Steps.{left_by, part_from}
use Rattle.hg_table.specs.Told.{IsShownTo}
use Rattle.hg_run_table.specs.declared.table.RunTable.{RunTable}
use Rattle.hg_run_table.specs.Calls.{IsWorkers, first_log, log_in, with_call}
use Rattle.hg_run_worker.specs.AtWork.{HasOwn, KeepsWith, view_in, worker_view}
use Rattle.hg_run_worker.specs.Freeing.{away_refusal, exchange_answer}
use Rattle.hg_run_worker.specs.declared.worker.RunWorker.{RunWorker}
use Rattle.hg_run_worker.proofs.FreesAway.{exchange_tied, kept_away, kept_refused, look_owed, live_owed, one_seen}
use Rattle.hg_run_worker.proofs.FreesAway.{part_owed, parted_view, place_owed, refused_at, refused_is, rules_now}
use Rattle.hg_run_worker.proofs.FreesAway.{same_view, seen_before, slot_found, unplaced_ties}
use Rattle.hg_run_worker.proofs.Ready.{decided_beside, freed_beside, refused_beside, view_beside}
use Rattle.hg_run_worker.proofs.Ready.{workers_stay}
use Rattle.hg_run_worker.proofs.worker.RunWorker.free_away.Given.{Over}
use Rattle.hg_run_worker.proofs.worker.RunWorker.free_away.Goals as goal
use Rattle.hg_run_worker.proofs.worker.RunWorker.free_away.Goals.{After-add_own, After-look_deciding-word, After-refusal_away-refused}

-- its own seat stands beside its part
rest_mid : (g : Over) (c : After-add_own g) → KeepsWith c.args.self.now.hand c.args.self.now c.add_own.new.self
rest_mid g c =
    let e = c.add_own.ensures.rest in
    record { table = e.table; policy = e.policy; number = e.number; now = e.now }

pub look_deciding-word-requires-clause-place : goal.look_deciding-word-requires-clause-place
look_deciding-word-requires-clause-place g c =
    let r = c.requires in
    let at = (goal.at.look_deciding-word-requires-clause-place g c).After-add_own in
    place_owed r.ready (rest_mid g at) c.add_own.ensures.heap r.away r.event r.denial
    (sym (ap is_some c.arena_of.ensures) ∙ (c.is_none.ensures ∙ ap not c.if-is_none.false))

pub look_deciding-word-requires-clause-tied : goal.look_deciding-word-requires-clause-tied
look_deciding-word-requires-clause-tied g c =
    let r = c.requires in
    let at = (goal.at.look_deciding-word-requires-clause-tied g c).After-add_own in
    look_owed r.ready (rest_mid g at) c.add_own.ensures.heap r.away r.event r.denial

-- the worker that has looked, with its own seat beside its part, and the word that it found
module _ (g : Over) (c : After-look_deciding-word g) where
  abbrev was : RunWorker
  was = c.args.self.now

  abbrev seen : RunWorker
  seen = c.look_deciding-word.new.self

  rest_seen : KeepsWith was.hand was seen
  rest_seen =
      let one = c.add_own.ensures.rest in
      let two = c.look_deciding-word.ensures.rest in
      record {
        table = two.table ∙ one.table;
        policy = two.policy ∙ one.policy;
        number = two.number ∙ one.number;
        now = two.hand ∙ one.now;
      }

  view_mid : view_in c.add_own.new.self ≡ view_in was
  view_mid =
      view_beside was c.add_own.new.self
      (let e = c.add_own.ensures.rest in
      record { table = e.table; policy = e.policy; number = e.number; now = e.now })
      c.add_own.ensures.heap

  heap_seen : seen.heap ≡ was.heap
  heap_seen = c.look_deciding-word.ensures.heap ∙ c.add_own.ensures.heap

  slot_seen : IsSlotWord c.look_deciding-word.result
  slot_seen =
      slot_found _ c.look_deciding-word.result c.add_own.new.self.call.seat.me.0.lives
      c.add_own.ensures.one c.look_deciding-word.ensures.shown

  one_now : seen.call.seat.me.0.lives ≡ lives.part_of seen.call.seat.me.0.lives ∷ []
  one_now = one_seen _ _ _ c.add_own.ensures.one c.look_deciding-word.ensures.lives

  rule_seen : (word : ℕ)
      → g.F.FreedAway.denial word
      ≡ use_denial seen.policy c.args.actor.0 right.Free c.args.handle word
  rule_seen =
      let r = c.requires in
      rules_now r.ready rest_seen heap_seen r.away r.event r.denial

  -- what the look refuses, as the call was told it, and as it was before
  module _ {o : Option Answer}
      (is : away_refusal (is_some seen.hand)
      (use_denial seen.policy c.args.actor.0 right.Free c.args.handle c.look_deciding-word.result)
      ≡ o) where
    told : away_refusal (is_some c.add_own.new.self.hand)
        (g.F.FreedAway.denial c.look_deciding-word.result) ≡ o
    told =
        (λ i.
        away_refusal (is_some (sym c.look_deciding-word.ensures.rest.hand i))
        (rule_seen c.look_deciding-word.result i))
        ∙ is

    before : away_refusal (is_some was.hand)
        (use_denial was.policy c.args.actor.0 right.Free c.args.handle c.look_deciding-word.result)
        ≡ o
    before =
        (λ i.
        away_refusal (is_some (sym rest_seen.now i))
        (use_denial (sym rest_seen.policy i) c.args.actor.0 right.Free c.args.handle
        c.look_deciding-word.result))
        ∙ is

    log_seen : log_in seen.call
        ≡ with_call (log_in was.call) (option_map (λ a. (g.F.FreedAway.event, a)) o)
    log_seen =
        c.look_deciding-word.ensures.log
        ∙ λ i.
        with_call (first_log (c.add_own.ensures.run i))
        (option_map (λ a. (g.F.FreedAway.event, a)) (told i))

    worker_seen : IsWorkers seen.call (view_in was)
    worker_seen =
        subst (IsWorkers seen.call)
        (same_view (view_in c.add_own.new.self) _
        ∙ view_mid)
        c.look_deciding-word.ensures.worker

-- whether its word refuses
told_refusal : (g : Over) (c : After-refusal_away-refused g)
    → away_refusal (is_some c.look_deciding-word.new.self.hand)
    (use_denial c.look_deciding-word.new.self.policy c.args.actor.0 right.Free c.args.handle
    c.look_deciding-word.result)
    ≡ c.refusal_away-refused.result
told_refusal g c =
    ap
    (λ (b : Bool).
    away_refusal b
    (use_denial c.look_deciding-word.new.self.policy c.args.actor.0 right.Free c.args.handle
    c.look_deciding-word.result))
    (sym c.is_some.ensures)
    ∙ sym c.refusal_away-refused.ensures

pub returns-in-Some-clause-freed : goal.returns-in-Some-clause-freed
returns-in-Some-clause-freed g c =
    let s = c.args.self.now in
    let at = (goal.at.returns-in-Some-clause-freed g c).After-look_deciding-word in
    let e = c.cut_own.ensures in
    let rest = rest_seen g at in
    let is =
    told_refusal g (goal.at.returns-in-Some-clause-freed g c).After-refusal_away-refused ∙ c.in-Some.is in
    refused_beside c.in-Some.refused s c.cut_own.new.self refl c.requires.ready
    (kept_refused c.args.handle s.hand (is_some s.hand) _ c.in-Some.refused (before g at is))
    (record {
      table = e.rest.table ∙ rest.table;
      policy = e.rest.policy ∙ rest.policy;
      number = e.rest.number ∙ rest.number;
      now = e.rest.now ∙ rest.now;
    })
    (subst (λ (t : RunTable). HasOwn t.table.shared.table_id c.cut_own.new.self.own) rest.table e.own)
    (e.heap ∙ heap_seen g at)
    (e.same ∙ c.look_deciding-word.ensures.same ∙ c.add_own.ensures.same) e.bare
    (workers_stay c.look_deciding-word.new.self.call c.cut_own.new.self.call (view_in s) e.run
    (worker_seen g at is))
    (ap first_log e.run ∙ log_seen g at is
    ∙ ap (λ x. log_in s.call ++ (x, c.in-Some.refused) ∷ []) c.requires.event)
    (subst
    (λ (v : View). (m : State) × Agrees m v (shown_at c.args.handle.place c.look_deciding-word.result))
    (view_mid g at) c.look_deciding-word.ensures.met)
    (refused_at s c.args.actor c.args.handle c.requires.away c.look_deciding-word.result
    c.in-Some.refused
    (refused_is s c.args.actor c.args.handle c.requires.away c.look_deciding-word.result
    ∙ before g at is)).ties

pub part_deciding-found-requires-clause-place : goal.part_deciding-found-requires-clause-place
part_deciding-found-requires-clause-place g c =
    let r = c.requires in
    let at = (goal.at.part_deciding-found-requires-clause-place g c).After-look_deciding-word in
    place_owed r.ready (rest_seen g at) (heap_seen g at) r.away r.event r.denial
    (sym (ap is_some c.arena_of.ensures) ∙ (c.is_none.ensures ∙ ap not c.if-is_none.false))

pub part_deciding-found-requires-clause-may : goal.part_deciding-found-requires-clause-may
part_deciding-found-requires-clause-may g c =
    let r = c.requires in
    let at = (goal.at.part_deciding-found-requires-clause-may g c).After-look_deciding-word in
    let is =
    told_refusal g (goal.at.part_deciding-found-requires-clause-may g c).After-refusal_away-refused
    ∙ c.in_default.is in (
      omega arith,
      lives.part_of c.look_deciding-word.new.self.call.seat.me.0.lives,
      ap (λ (view : lives.View). get_elem? view 0) (one_now g at),
      live_owed r.ready (rest_seen g at) (heap_seen g at) r.away r.event r.denial
          c.look_deciding-word.result (slot_seen g at)
          (ap (away_refusal (is_some c.look_deciding-word.new.self.hand)) (rule_seen g at c.look_deciding-word.result)
          ∙ is),
    )

pub part_deciding-found-requires-clause-tied : goal.part_deciding-found-requires-clause-tied
part_deciding-found-requires-clause-tied g c = λ found shown.
    let r = c.requires in
    let at = (goal.at.part_deciding-found-requires-clause-tied g c).After-look_deciding-word in
    let is =
    told_refusal g (goal.at.part_deciding-found-requires-clause-tied g c).After-refusal_away-refused
    ∙ c.in_default.is in
    part_owed r.ready (rest_seen g at) (heap_seen g at) r.away r.event r.denial
    c.look_deciding-word.result r.freed (slot_seen g at)
    (ap (away_refusal (is_some c.look_deciding-word.new.self.hand)) (rule_seen g at c.look_deciding-word.result)
    ∙ is)
    found
    (slot_found _ found c.look_deciding-word.new.self.call.seat.me.0.lives (one_now g at) shown)
    (seen_before _ c.look_deciding-word.result found c.add_own.new.self.call.seat.me.0.lives
    c.add_own.ensures.one
    (subst (λ (view : lives.View). IsShownTo (number_of c.args.handle.place + 1) found view)
    c.look_deciding-word.ensures.lives shown))

-- the exchange of a word that refuses nothing
module _ (g : Over) (c : After-look_deciding-word g)
    (none : away_refusal (is_some c.look_deciding-word.new.self.hand)
    (use_denial c.look_deciding-word.new.self.policy c.args.actor.0 right.Free c.args.handle
    c.look_deciding-word.result)
    ≡ None)
    (found : ℕ)
    (shown : IsShownTo (number_of c.args.handle.place + 1) found
    c.look_deciding-word.new.self.call.seat.me.0.lives) where
  abbrev rule_found : Option Rule
  rule_found = use_denial c.args.self.now.policy c.args.actor.0 right.Free c.args.handle found

  abbrev view_found : Bool → View
  view_found b = cond b (parted_view c.args.self.now c.args.handle) (view_in c.args.self.now)

  -- it is tied, where it finds this word and where it finds another
  ties_found : (b : Bool) → (found == c.look_deciding-word.result) ≡ b
      → Ties (view_in c.args.self.now) (shown_at c.args.handle.place found)
      (event.Free c.args.actor c.args.handle) (exchange_answer b rule_found) (view_found b)
      (shown_at c.args.handle.place (left_by (part_from c.look_deciding-word.result) found))
  ties_found b is =
      subst
      (λ (b : Bool).
      Ties (view_in c.args.self.now) (shown_at c.args.handle.place found)
      (event.Free c.args.actor c.args.handle) (exchange_answer b rule_found) (view_found b)
      (shown_at c.args.handle.place (left_by (part_from c.look_deciding-word.result) found)))
      is
      (exchange_tied c.args.self.now c.args.actor c.args.handle c.requires.away
      c.look_deciding-word.result (slot_seen g c) (before g c none) found
      (slot_found _ found c.look_deciding-word.new.self.call.seat.me.0.lives (one_now g c) shown)
      (seen_before _ c.look_deciding-word.result found c.add_own.new.self.call.seat.me.0.lives
      c.add_own.ensures.one
      (subst
      (λ (view : lives.View). IsShownTo (number_of c.args.handle.place + 1) found view)
      c.look_deciding-word.ensures.lives shown))).ties

  log_found : (b : Bool) (parted : RunWorker) → (found == c.look_deciding-word.result) ≡ b
      → log_in parted.call
      ≡ log_in c.look_deciding-word.new.self.call
      ++ (
        g.F.FreedAway.event,
        exchange_answer (found == c.look_deciding-word.result)
            (g.F.FreedAway.denial found),
      ) ∷ []
      → log_in parted.call
      ≡ log_in c.args.self.now.call
      ++ (event.Free c.args.actor c.args.handle, exchange_answer b rule_found) ∷ []
  log_found b parted is log =
      log
      ∙ λ i.
      log_seen g c none i
      ++ (c.requires.event i, exchange_answer (is i) (c.requires.denial found i)) ∷ []

  worker_found : (b : Bool) (parted : RunWorker) → (found == c.look_deciding-word.result) ≡ b
      → IsWorkers parted.call
      (cond (found == c.look_deciding-word.result)
      (worker_view c.look_deciding-word.new.self.policy c.look_deciding-word.new.self.number
      g.F.FreedAway.freed c.look_deciding-word.new.self.heap.segments)
      (view_in c.look_deciding-word.new.self))
      → IsWorkers parted.call (view_found b)
  worker_found b parted is has =
      let rest = rest_seen g c in
      let heap = heap_seen g c in
      subst (IsWorkers parted.call)
      (λ i.
      cond (is i)
      (worker_view (rest.policy i) (rest.number i) (c.requires.freed i) (heap i).segments)
      (view_beside c.args.self.now c.look_deciding-word.new.self rest heap i))
      has

pub returns-then-found-word-clause-freed : goal.returns-then-found-word-clause-freed
returns-then-found-word-clause-freed g c =
    let s = c.args.self.now in
    let at = goal.at.returns-then-found-word-clause-freed g c in
    let look = at.After-look_deciding-word in
    let none = told_refusal g at.After-refusal_away-refused ∙ c.in_default.is in
    let e = c.cut_own-2.ensures in
    let rest = rest_seen g look in
    let part = c.part_deciding-found.ensures in
    let miss : (c.part_deciding-found.result == c.look_deciding-word.result) ≡ false =
    ne_eqb c.part_deciding-found.result c.look_deciding-word.result c.if-found-word.true in
    let denial : Option Rule =
    use_denial s.policy c.args.actor.0 right.Free c.args.handle c.part_deciding-found.result in
    let policy : c.cut_own-2.new.self.policy ≡ s.policy = e.rest.policy ∙ part.rest.policy ∙ rest.policy in
    let told : away_answer denial ≡ c.refused_answer-then-found-word.result =
    (λ i.
    away_answer
    (use_denial (sym policy i) c.args.actor.0 right.Free c.args.handle c.part_deciding-found.result))
    ∙ sym c.denied_or_elsewhere-then-found-word.ensures ∙ sym c.refused_answer-then-found-word.ensures in
    refused_beside (away_answer denial) s _ told c.requires.ready (kept_away c.args.handle s.hand denial)
    (record {
      table = e.rest.table ∙ part.rest.table ∙ rest.table;
      policy = policy;
      number = e.rest.number ∙ part.rest.number ∙ rest.number;
      now = e.rest.now ∙ part.rest.hand ∙ rest.now;
    })
    (subst (λ (t : RunTable). HasOwn t.table.shared.table_id c.cut_own-2.new.self.own)
    (part.rest.table ∙ rest.table) e.own)
    (e.heap ∙ part.heap ∙ heap_seen g look)
    (e.same ∙ part.same ∙ c.look_deciding-word.ensures.same ∙ c.add_own.ensures.same) e.bare
    (workers_stay c.part_deciding-found.new.self.call c.cut_own-2.new.self.call (view_in s) e.run
    (worker_found g look none c.part_deciding-found.result part.shown false c.part_deciding-found.new.self miss part.worker))
    (ap first_log e.run ∙ log_found g look none c.part_deciding-found.result part.shown false c.part_deciding-found.new.self miss part.log)
    (subst
    (λ (v : View). (m : State) × Agrees m v (shown_at c.args.handle.place c.part_deciding-found.result))
    (view_beside s c.look_deciding-word.new.self rest (heap_seen g look)) part.met)
    (ties_found g look none c.part_deciding-found.result part.shown false miss)

pub returns-clause-freed : goal.returns-clause-freed
returns-clause-freed g c =
    let s = c.args.self.now in
    let at = goal.at.returns-clause-freed g c in
    let look = at.After-look_deciding-word in
    let none = told_refusal g at.After-refusal_away-refused ∙ c.in_default.is in
    let e = c.cut_own-2.ensures in
    let rest = rest_seen g look in
    let part = c.part_deciding-found.ensures in
    let hit : (c.part_deciding-found.result == c.look_deciding-word.result) ≡ true =
    eq-eqb c.part_deciding-found.result c.look_deciding-word.result c.if-found-word.false in
    let denial : Option Rule =
    use_denial s.policy c.args.actor.0 right.Free c.args.handle c.part_deciding-found.result in
    let heap = e.heap ∙ part.heap ∙ heap_seen g look in
    freed_beside s _
    (decided_beside s _ (Some c.args.handle) c.requires.ready
    (record {
      table = e.rest.table ∙ part.rest.table ∙ rest.table;
      policy = e.rest.policy ∙ part.rest.policy ∙ rest.policy;
      number = e.rest.number ∙ part.rest.number ∙ rest.number;
      now = refl;
    })
    (subst (λ (t : RunTable). HasOwn t.table.shared.table_id c.cut_own-2.new.self.own)
    (part.rest.table ∙ rest.table) e.own)
    heap (e.same ∙ part.same ∙ c.look_deciding-word.ensures.same ∙ c.add_own.ensures.same) e.bare
    (workers_stay c.part_deciding-found.new.self.call c.cut_own-2.new.self.call
    (parted_view s c.args.handle) e.run
    (worker_found g look none c.part_deciding-found.result part.shown true c.part_deciding-found.new.self hit part.worker))
    (ap first_log e.run ∙ log_found g look none c.part_deciding-found.result part.shown true c.part_deciding-found.new.self hit part.log))
    heap
    (subst
    (λ (v : View). (m : State) × Agrees m v (shown_at c.args.handle.place c.part_deciding-found.result))
    (view_beside s c.look_deciding-word.new.self rest (heap_seen g look)) part.met)
    (ties_found g look none c.part_deciding-found.result part.shown true hit)

pub returns-then-is_none-clause-freed : goal.returns-then-is_none-clause-freed
returns-then-is_none-clause-freed g c =
    let s = c.args.self.now in
    let e = c.refuse.ensures in
    let denial : Option Rule = use_denial s.policy c.args.actor.0 right.Free c.args.handle 0 in
    let none : arena_of s.policy c.args.handle.place.segment ≡ None =
    sym c.arena_of.ensures ∙ none_is c.arena_of.result (c.is_none.ensures ∙ ap not c.if-is_none.true) in
    let told : away_answer denial ≡ c.refused_answer.result =
    (λ i. away_answer (use_denial (sym e.rest.policy i) c.args.actor.0 right.Free c.args.handle 0))
    ∙ sym c.denied_or_elsewhere.ensures ∙ sym c.refused_answer.ensures in
    refused_beside (away_answer denial) s _ told c.requires.ready (kept_away c.args.handle s.hand denial)
    (record {
      table = e.rest.table;
      policy = e.rest.policy;
      number = e.rest.number;
      now = e.rest.hand;
    })
    (subst (HasOwn (arc_value s.table).table.shared.table_id) (sym e.rest.own) c.requires.ready.own)
    e.heap e.same (e.lives ∙ c.requires.ready.work.bare) e.worker
    (e.log ∙ λ i. log_in s.call ++ (c.requires.event i, away_answer (c.requires.denial 0 i)) ∷ [])
    e.agreed
    (unplaced_ties s c.args.actor c.args.handle c.requires.away none)
