use Rattle.std.proofs.Common.{◌∙◌, List, [], ◌∷◌, ◌++◌, ap, refl, sym, subst, arith}
use lib.ListN.{get_elem?}
use Rattle.hg_table.specs.View.{View, blank, part_of}
use Rattle.hg_machine.specs.declared.Event.TheVariants as event
use Rattle.hg_roles.specs.FirstParts.{idle}
use Rattle.hg_roles.specs.Roles.{of_worker, of_segment}
use Rattle.hg_run_table.specs.declared.part.Part.{Part}
use Rattle.hg_run_table.specs.Calls.{log_in}
use Rattle.hg_run_table.specs.Seated.{HaveRoles}
use Rattle.hg_run_table.proofs.Answering.{may_leave}
use Rattle.hg_run_table.proofs.AnswersAre.{looks_may_answer}
use Rattle.hg_run_table_tests.proofs.Lasts.{seat_of, second_last}
use Rattle.hg_run_table_tests.proofs.seats.taken.Goals as goal

pub join-requires-clause-same : goal.join-requires-clause-same
join-requires-clause-same c =
    let opened = c.in_ok-table.ensures in
    (opened.each_worker 1 c.in-Some.seat
    (second_last _ _ _ c.in-Some.ensures.items (opened.workers ∙ c.requires.workers))).same

pub join-requires-clause-of_it : goal.join-requires-clause-of_it
join-requires-clause-of_it c =
    let opened = c.in_ok-table.ensures in
    (opened.each_segment 1 c.in-Some-pop.segment
    (second_last _ _ _ c.in-Some-pop.ensures.items (opened.segments ∙ c.requires.segments))).same

pub take-taken-requires-clause-same : goal.take-taken-requires-clause-same
take-taken-requires-clause-same c =
    let opened = c.in_ok-table.ensures in
    c.join.ensures.same
    ∙ (opened.each_worker 1 c.in-Some.seat
    (second_last _ _ _ c.in-Some.ensures.items (opened.workers ∙ c.requires.workers))).same

pub take-taken-requires-clause-may : goal.take-taken-requires-clause-may
take-taken-requires-clause-may c =
    let opened = c.in_ok-table.ensures in
    let worker =
    opened.each_worker 1 c.in-Some.seat
    (second_last _ _ _ c.in-Some.ensures.items (opened.workers ∙ c.requires.workers)) in
    let segment =
    opened.each_segment 1 c.in-Some-pop.segment
    (second_last _ _ _ c.in-Some-pop.ensures.items (opened.segments ∙ c.requires.segments)) in
    let theirs = c.in-Some-pop.segment.seat.me.0.lives in (
      omega arith,
      part_of theirs,
      ap (λ (l : View). get_elem? l 1)
          (c.join.ensures.lives ∙ ap (λ (l : View). l ++ theirs) worker.lives
          ∙ ap (λ (l : View). blank ∷ l) segment.lives.one),
      (
        8191,
        omega (arith, segment.lives.all),
        omega (arith, segment.lives.first, c.place_at.ensures.number),
      ),
    )

pub look-read-requires-clause-same : goal.look-read-requires-clause-same
look-read-requires-clause-same c =
    let opened = c.in_ok-table.ensures in
    c.take-taken.ensures.same ∙ c.join.ensures.same
    ∙ (opened.each_worker 1 c.in-Some.seat
    (second_last _ _ _ c.in-Some.ensures.items (opened.workers ∙ c.requires.workers))).same

pub look_asked-answered-requires-clause-same : goal.look_asked-answered-requires-clause-same
look_asked-answered-requires-clause-same c =
    let opened = c.in_ok-table.ensures in
    c.ask.ensures.same ∙ c.look-read.ensures.same ∙ c.take-taken.ensures.same ∙ c.join.ensures.same
    ∙ (opened.each_worker 1 c.in-Some.seat
    (second_last _ _ _ c.in-Some.ensures.items (opened.workers ∙ c.requires.workers))).same

pub ask-requires : goal.ask-requires
ask-requires c =
    let opened = c.in_ok-table.ensures in
    record {
      same =
          c.look-read.ensures.same ∙ c.take-taken.ensures.same ∙ c.join.ensures.same
          ∙ (opened.each_worker 1 c.in-Some.seat
          (second_last _ _ _ c.in-Some.ensures.items (opened.workers ∙ c.requires.workers))).same;
    }

-- the worker's part is asked a Collect, which any look may answer
pub look_asked-answered-requires-clause-answers : goal.look_asked-answered-requires-clause-answers
look_asked-answered-requires-clause-answers c = λ word shown.
    let opened = c.in_ok-table.ensures in
    let worker =
    opened.each_worker 1 c.in-Some.seat
    (second_last _ _ _ c.in-Some.ensures.items (opened.workers ∙ c.requires.workers)) in
    let segment =
    opened.each_segment 1 c.in-Some-pop.segment
    (second_last _ _ _ c.in-Some-pop.ensures.items (opened.segments ∙ c.requires.segments)) in
    let key = c.in_ok-table.table.table.shared.key in
    may_leave key _ word word c.ask.new.seat.seat.me.0.run
    (looks_may_answer key _ word c.ask.new.seat.seat.me.0.run
    (of_worker (idle c.args.policy.now 1) (log_in c.in-Some.seat) ∷ of_segment 1 ∷ [])
    (log_in c.in-Some.seat) (idle c.args.policy.now 1) event.Collect []
    (record {
      has =
          c.ask.ensures.roles
          (of_worker (idle c.args.policy.now 1) (log_in c.in-Some.seat) ∷ of_segment 1 ∷ [])
          (subst
          (λ (run : List Part).
          HaveRoles run
          (of_worker (idle c.args.policy.now 1) (log_in c.in-Some.seat) ∷ of_segment 1 ∷ []))
          (sym (c.look-read.ensures.run ∙ c.take-taken.ensures.run))
          (c.join.ensures.roles
          (of_worker (idle c.args.policy.now 1) (log_in c.in-Some.seat) ∷ [])
          (of_segment 1 ∷ []) worker.worker segment.part));
      seat = seat_of (idle c.args.policy.now 1) (log_in c.in-Some.seat) 1;
      asked = c.ask.ensures.asked 1;
    })
    refl (λ a other. refl))

pub close-requires : goal.close-requires
close-requires c =
    let opened = c.in_ok-table.ensures in
    record {
      same =
          c.look_asked-answered.ensures.same ∙ c.ask.ensures.same ∙ c.look-read.ensures.same ∙ c.take-taken.ensures.same ∙ c.join.ensures.same
          ∙ (opened.each_worker 1 c.in-Some.seat
          (second_last _ _ _ c.in-Some.ensures.items (opened.workers ∙ c.requires.workers))).same;
    }
