use Rattle.std.proofs.Common.{◌∙◌, refl, subst, sym}
use Rattle.std.proofs.lemmas.Bool.{true≢false}
use Rattle.hg_machine.specs.declared.Event.TheVariants as event
use Rattle.hg_heap.specs.Answers.{list_denial, row_answer}
use Rattle.hg_run_table.proofs.Answering.{may_leave}
use Rattle.hg_run_table.proofs.AnswersAre.{looks_may_answer}
use Rattle.hg_run_worker.specs.Lent.{IsTiedStep}
use Rattle.hg_run_worker.proofs.Course.{back_keeps, has_loan, held_still, lent_asks}
use Rattle.hg_run_worker.proofs.SlotsLent.{all_stays, held_there}
use Rattle.hg_run_worker.proofs.Ready.{has_called, rest_twice}
use Rattle.hg_machine.specs.Policy.{Policy}
use Rattle.hg_heap.specs.Ties.{HeapTies, shown_at}
use Rattle.hg_run_worker.specs.AtWork.{number_in, records_in}
use Rattle.hg_run_worker.proofs.worker.RunWorker.look_asked.Goals as goal
use Rattle.hg_run_worker.proofs.worker.RunWorker.look_asked.Goals.{After-look-row}
use Rattle.hg_run_worker.proofs.worker.RunWorker.look_asked.Given.{Over}

pub look-row-requires-clause-held : goal.look-row-requires-clause-held
look-row-requires-clause-held g c = held_there c.lend.ensures.lent.once c.lend.ensures.lent.lent

pub look-row-requires-clause-allowed : goal.look-row-requires-clause-allowed
look-row-requires-clause-allowed g c = λ k there word shown.
    may_leave _ _ word word k.slots.seat.seat.me.0.run
    (looks_may_answer _ _ word k.slots.seat.seat.me.0.run _ _ _ _ _
    (lent_asks c.lend.ensures.lent c.requires.asked k there) refl (λ a other. refl))

-- the step at which the Look is tied
stepped : (g : Over) (c : After-look-row g)
    → IsTiedStep c.args.self.now.policy c.args.place.segment c.args.place c.look-row.new.shown
    c.look-row.new.shown (event.Look c.args.actor c.args.place)
    (row_answer c.look-row.result
    (list_denial c.args.self.now.policy c.args.actor c.args.place c.look-row.new.shown))
    c.lend.new.self.heap.segments c.look-row.new.self.segments
stepped g c = record {
  inside = refl;
  stepped = c.look-row.ensures.step;
  ties =
      subst
      (λ (p : Policy).
      HeapTies number_in records_in p (shown_at c.args.place c.look-row.new.shown)
      (shown_at c.args.place c.look-row.new.shown) (event.Look c.args.actor c.args.place)
      (row_answer c.look-row.result (list_denial p c.args.actor c.args.place c.look-row.new.shown))
      c.lend.new.self.heap.segments c.look-row.new.self.segments)
      c.lend.ensures.rest.policy c.look-row.ensures.ties;
  alone = λ other t. absurd (true≢false (sym t));
}

pub take_back-requires-clause-held : goal.take_back-requires-clause-held
take_back-requires-clause-held g c =
    let s = stepped g (goal.at.take_back-requires-clause-held g c).After-look-row in
    held_still c.lend.ensures.lent c.requires.asked s c.args.self.now.below

pub take_back-requires-clause-loan : goal.take_back-requires-clause-loan
take_back-requires-clause-loan g c =
    let s = stepped g (goal.at.take_back-requires-clause-loan g c).After-look-row in
    has_loan c.lend.ensures.lent c.requires.asked s c.args.self.now.below

pub returns-clause-called : goal.returns-clause-called
returns-clause-called g c =
    let s = stepped g (goal.at.returns-clause-called g c).After-look-row in
    let e = c.take_back.ensures in
    has_called c.args.self.now c.take_back.new.self c.lend.ensures.lent c.requires.asked s c.requires.ready
    (rest_twice c.args.self.now c.lend.new.self c.take_back.new.self c.lend.ensures.rest
    (record { table = e.rest.table; policy = e.rest.policy; number = e.rest.number; own = e.rest.own; hand = e.rest.hand }))
    e.back

pub returns-clause-lists : goal.returns-clause-lists
returns-clause-lists g c = λ page.
    c.take_back.ensures.lists page ∙ c.look-row.ensures.lists page ∙ c.lend.ensures.lists page

pub returns-clause-kept : goal.returns-clause-kept
returns-clause-kept g c =
    let s = stepped g (goal.at.returns-clause-kept g c).After-look-row in
    let l = c.lend.ensures.lent in
    back_keeps l c.requires.asked s c.args.self.now.below c.take_back.ensures.back
    ∙ c.look-row.ensures.kept ∙ all_stays l.once l.lent
