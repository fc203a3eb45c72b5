use Rattle.std.proofs.Common.{◌≡◌, ◌∙◌, [], ◌∷◌, List, ap, refl, sym, subst, arith, take, drop, length}
use Rattle.std.proofs.Common.{length-append}
use Rattle.std.proofs.lemmas.List.{length-map}
use Rattle.std.specs.Arc.{arc_value}
use Rattle.hg_place.specs.Standings.{slot_of}
use Rattle.hg_table.specs.View.{View, blank, part_of}
use Rattle.hg_machine.specs.declared.Event.TheVariants as event
use Rattle.hg_roles.specs.FirstParts.{idle}
use Rattle.hg_roles.specs.Roles.{of_worker, of_segment}
use Rattle.hg_run_table.specs.declared.part.Part.{Part}
use Rattle.hg_run_table.specs.declared.table.RunSeat.{RunSeat}
use Rattle.hg_run_table.specs.AnswerLaws.{AsksOne}
use Rattle.hg_run_table.specs.Calls.{log_in}
use Rattle.hg_run_table.specs.NewSeats.{IsNewSegment}
use Rattle.hg_run_table.specs.Resting.{rests}
use Rattle.hg_run_table.specs.Seated.{HaveRoles}
use Rattle.hg_run_table.proofs.Answering.{may_leave}
use Rattle.hg_run_table.proofs.AnswersAre.{looks_may_answer}
use Rattle.hg_run_table.proofs.LentSeats.{as_many, asks_behind, quiet_segment, still}
use Rattle.hg_run_table_tests.proofs.Lasts.{second_last}
use Rattle.hg_run_table_tests.proofs.segments.lent.Goals as goal

pub new-requires-2-clause-new : goal.new-requires-2-clause-new
new-requires-2-clause-new c =
    let opened = c.in_ok-table.ensures in
    subst (λ t. IsNewSegment t.table.shared.table_id 1 c.in-Some-pop.seat) (sym c.in_ok-table-2.ensures.ok)
    (opened.each_segment 1 c.in-Some-pop.seat
    (second_last _ _ _ c.in-Some-pop.ensures.items (opened.segments ∙ c.requires.segments)))

pub look-rests-requires-clause-allowed : goal.look-rests-requires-clause-allowed
look-rests-requires-clause-allowed c = λ word shown.
    let opened = c.in_ok-table.ensures in
    let segment =
    opened.each_segment 1 c.in-Some-pop.seat
    (second_last _ _ _ c.in-Some-pop.ensures.items (opened.segments ∙ c.requires.segments)) in
    let has =
    subst (λ (s : RunSeat). HaveRoles s.seat.me.0.run (of_segment 1 ∷ []))
    (sym c.in_ok-slots.ensures.seat) segment.part in
    rests (arc_value c.in_ok-slots.slots.table).table.shared.key c.in_ok-slots.slots.segment
    c.in_ok-slots.slots.seat (slot_of c.place_at-place.result) word
    (quiet_segment c.in_ok-slots.slots.seat.seat.me.0.run 1 has)

pub split-call-requires-clause-same : goal.split-call-requires-clause-same
split-call-requires-clause-same c =
    let opened = c.in_ok-table.ensures in
    let worker =
    opened.each_worker 1 c.in-Some.worker
    (second_last _ _ _ c.in-Some.ensures.items (opened.workers ∙ c.requires.workers)) in
    let one = worker.same in
    let two = c.in_ok-table-2.ensures.ok in
    let three = c.deref.ensures in
    cc

pub meet-met-requires-clause-may_meet : goal.meet-met-requires-clause-may_meet
meet-met-requires-clause-may_meet c =
    let opened = c.in_ok-table.ensures in
    let worker =
    opened.each_worker 1 c.in-Some.worker
    (second_last _ _ _ c.in-Some.ensures.items (opened.workers ∙ c.requires.workers)) in
    let segment =
    opened.each_segment 1 c.in-Some-pop.seat
    (second_last _ _ _ c.in-Some-pop.ensures.items (opened.segments ∙ c.requires.segments)) in
    let e : c.split-call.new.seat.seat.me.0.lives ≡ blank ∷ [] =
    c.split-call.ensures.lives ∙ ap (λ (l : View). take 1 l) worker.lives in
    let one = c.split-call.ensures.same in
    let two = worker.same in
    let three = c.look-rests.ensures.step.same in
    let four = c.in_ok-slots.ensures.seat in
    let five = segment.same in
    record {
      same = cc;
      one = e ∙ ap (λ part. part ∷ []) (sym (ap part_of e));
      bare = c.split-call.ensures.run;
    }

pub ask-requires : goal.ask-requires
ask-requires c =
    let opened = c.in_ok-table.ensures in
    let worker =
    opened.each_worker 1 c.in-Some.worker
    (second_last _ _ _ c.in-Some.ensures.items (opened.workers ∙ c.requires.workers)) in
    let one = c.split-call.ensures.of_it in
    let two = worker.same in
    let three = c.in_ok-table-2.ensures.ok in
    let four = c.deref-2.ensures in
    record { same = cc }

pub lend-requires : goal.lend-requires
lend-requires c =
    let opened = c.in_ok-table.ensures in
    let worker =
    opened.each_worker 1 c.in-Some.worker
    (second_last _ _ _ c.in-Some.ensures.items (opened.workers ∙ c.requires.workers)) in
    let segment =
    opened.each_segment 1 c.in-Some-pop.seat
    (second_last _ _ _ c.in-Some-pop.ensures.items (opened.segments ∙ c.requires.segments)) in
    let one = c.ask.ensures.same in
    let two = c.split-call.ensures.of_it in
    let three = worker.same in
    let four = c.meet-met.ensures.met.same in
    let five = c.look-rests.ensures.step.same in
    let six = c.in_ok-slots.ensures.seat in
    let seven = segment.same in
    record {
      same = cc;
      one =
          ap length c.ask.ensures.run ∙ length-map c.split-call.result.seat.me.0.run _
          ∙ ap length c.split-call.ensures.run_given ∙ worker.worker.count;
      bare =
          c.ask.ensures.lives ∙ c.split-call.ensures.lives_given
          ∙ ap (λ (l : View). drop 1 l) worker.lives;
    }

pub look-answered-requires-clause-allowed : goal.look-answered-requires-clause-allowed
look-answered-requires-clause-allowed c = λ word shown.
    let opened = c.in_ok-table.ensures in
    let worker =
    opened.each_worker 1 c.in-Some.worker
    (second_last _ _ _ c.in-Some.ensures.items (opened.workers ∙ c.requires.workers)) in
    let segment =
    opened.each_segment 1 c.in-Some-pop.seat
    (second_last _ _ _ c.in-Some-pop.ensures.items (opened.segments ∙ c.requires.segments)) in
    let has =
    subst (λ (s : RunSeat). HaveRoles s.seat.me.0.run (of_segment 1 ∷ []))
    (sym c.in_ok-slots.ensures.seat) segment.part in
    let log = log_in c.in-Some.worker in
    let view = idle c.args.policy.now 1 in
    let run = c.meet-met.new.self.seat.seat.me.0.run in
    let same =
    c.meet-met.ensures.met.run
    ∙ still _ _ _ c.in_ok-slots.slots.seat.seat.me.0.run _
    (quiet_segment c.in_ok-slots.slots.seat.seat.me.0.run 1 has) c.look-rests.ensures.step.answered in
    let asks =
    asks_behind run c.ask.new.seat.seat.me.0.run 1 view log event.Collect
    (subst (λ (r : List Part). HaveRoles r (of_segment 1 ∷ [])) (sym same) has)
    (c.ask.ensures.roles (of_worker view log ∷ [])
    (c.split-call.ensures.roles [] (of_worker view log ∷ []) refl worker.worker).1)
    (c.ask.ensures.asked 1) in
    may_leave _ _ word word c.lend.new.self.seat.seat.me.0.run
    (looks_may_answer _ _ word c.lend.new.self.seat.seat.me.0.run
    (of_segment 1 ∷ of_worker view log ∷ []) log view event.Collect []
    (subst
    (λ (r : List Part). AsksOne r (of_segment 1 ∷ of_worker view log ∷ []) view log event.Collect [])
    (sym c.lend.ensures.lent.run) asks)
    refl (λ a other. refl))

pub give_back-call-requires : goal.give_back-call-requires
give_back-call-requires c =
    let opened = c.in_ok-table.ensures in
    let worker =
    opened.each_worker 1 c.in-Some.worker
    (second_last _ _ _ c.in-Some.ensures.items (opened.workers ∙ c.requires.workers)) in
    let segment =
    opened.each_segment 1 c.in-Some-pop.seat
    (second_last _ _ _ c.in-Some-pop.ensures.items (opened.segments ∙ c.requires.segments)) in
    let has =
    subst (λ (s : RunSeat). HaveRoles s.seat.me.0.run (of_segment 1 ∷ []))
    (sym c.in_ok-slots.ensures.seat) segment.part in
    let run = c.meet-met.new.self.seat.seat.me.0.run in
    let same =
    c.meet-met.ensures.met.run
    ∙ still _ _ _ c.in_ok-slots.slots.seat.seat.me.0.run _
    (quiet_segment c.in_ok-slots.slots.seat.seat.me.0.run 1 has) c.look-rests.ensures.step.answered in
    let first : length run ≡ 1 = ap length same ∙ has.count in
    let second : length c.ask.new.seat.seat.me.0.run ≡ 1 =
    ap length c.ask.ensures.run ∙ length-map c.split-call.result.seat.me.0.run _
    ∙ ap length c.split-call.ensures.run_given ∙ worker.worker.count in
    let all =
    as_many _ _ _ c.lend.new.self.seat.seat.me.0.run _ c.look-answered.ensures.step.answered
    ∙ ap length c.lend.ensures.lent.run ∙ length-append run c.ask.new.seat.seat.me.0.run in
    omega (arith, all, first, second)

pub join-requires-2-clause-of_it : goal.join-requires-2-clause-of_it
join-requires-2-clause-of_it c =
    let opened = c.in_ok-table.ensures in
    let worker =
    opened.each_worker 1 c.in-Some.worker
    (second_last _ _ _ c.in-Some.ensures.items (opened.workers ∙ c.requires.workers)) in
    let one = c.meet-met.ensures.met.same_other in
    let two = c.split-call.ensures.same in
    let three = worker.same in
    let four = c.in_ok-table-2.ensures.ok in
    let five = c.deref-4.ensures in
    cc
