use Rattle.std.proofs.Common.{ℕ, ◌∙◌, refl, subst, sym}
use Rattle.std.proofs.lemmas.Bool.{true≢false}
use Rattle.hg_machine.specs.declared.Event.TheVariants as event
use Rattle.hg_heap.specs.Answers.{read_answer}
use Rattle.hg_run_table.proofs.Answering.{may_leave}
use Rattle.hg_run_table.proofs.AnswersAre.{looks_may_answer}
use Rattle.hg_run_worker.specs.Lent.{IsTiedStep}
use Rattle.hg_run_worker.proofs.Course.{back_keeps, has_loan, held_still, lent_asks}
use Rattle.hg_run_worker.proofs.SlotsLent.{all_stays, held_there}
use Rattle.hg_run_worker.proofs.Ready.{has_called, rest_twice}
use Rattle.hg_machine.specs.Policy.{Policy}
use Rattle.hg_heap.specs.Ties.{HeapTies, shown_at}
use Rattle.hg_run_worker.specs.AtWork.{number_in, records_in}
use Rattle.hg_run_worker.proofs.worker.RunWorker.read_asked.Goals as goal
use Rattle.hg_run_worker.proofs.worker.RunWorker.read_asked.Goals.{After-read-value}
use Rattle.hg_run_worker.proofs.worker.RunWorker.read_asked.Given.{Over}

pub read-value-requires : goal.read-value-requires
read-value-requires g c = record {
  allowed = λ k there word shown.
      may_leave _ _ word word k.slots.seat.seat.me.0.run
      (looks_may_answer _ _ word k.slots.seat.seat.me.0.run _ _ _ _ _
      (lent_asks c.lend.ensures.lent c.requires.asked k there) refl (λ a other. refl));
}

-- the step at which the Read is tied
stepped : (g : Over) (c : After-read-value g) → (word : ℕ)
    × IsTiedStep c.args.self.now.policy c.args.handle.place.segment c.args.handle.place word word
    (event.Read c.args.actor c.args.handle c.args.index) (read_answer c.read-value.result)
    c.lend.new.self.heap.segments c.read-value.new.self.segments
stepped g c =
    let l = c.lend.ensures.lent in
    let h = c.read-value.ensures.held (held_there l.once l.lent) in (
      h.0,
      record {
        inside = refl;
        stepped = h.1;
        ties =
            subst
            (λ (p : Policy).
            HeapTies number_in records_in p (shown_at c.args.handle.place h.0)
            (shown_at c.args.handle.place h.0) (event.Read c.args.actor c.args.handle c.args.index)
            (read_answer c.read-value.result) c.lend.new.self.heap.segments
            c.read-value.new.self.segments)
            c.lend.ensures.rest.policy h.2;
        alone = λ other t. absurd (true≢false (sym t));
      },
    )

pub take_back-requires-clause-held : goal.take_back-requires-clause-held
take_back-requires-clause-held g c =
    let s = stepped g (goal.at.take_back-requires-clause-held g c).After-read-value in
    held_still c.lend.ensures.lent c.requires.asked s.1 c.args.self.now.below

pub take_back-requires-clause-loan : goal.take_back-requires-clause-loan
take_back-requires-clause-loan g c =
    let s = stepped g (goal.at.take_back-requires-clause-loan g c).After-read-value in
    has_loan c.lend.ensures.lent c.requires.asked s.1 c.args.self.now.below

pub returns-clause-called : goal.returns-clause-called
returns-clause-called g c =
    let s = stepped g (goal.at.returns-clause-called g c).After-read-value in
    let e = c.take_back.ensures in
    has_called c.args.self.now c.take_back.new.self c.lend.ensures.lent c.requires.asked s.1 c.requires.ready
    (rest_twice c.args.self.now c.lend.new.self c.take_back.new.self c.lend.ensures.rest
    (record { table = e.rest.table; policy = e.rest.policy; number = e.rest.number; own = e.rest.own; hand = e.rest.hand }))
    e.back

pub returns-clause-kept : goal.returns-clause-kept
returns-clause-kept g c =
    let s = stepped g (goal.at.returns-clause-kept g c).After-read-value in
    let l = c.lend.ensures.lent in
    back_keeps l c.requires.asked s.1 c.args.self.now.below c.take_back.ensures.back
    ∙ c.read-value.ensures.kept ∙ all_stays l.once l.lent

pub returns-clause-lists : goal.returns-clause-lists
returns-clause-lists g c = λ page.
    c.take_back.ensures.lists page ∙ c.read-value.ensures.lists page ∙ c.lend.ensures.lists page
