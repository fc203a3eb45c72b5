use Rattle.std.proofs.Common.{ℕ, ◌∙◌, Result, Ok, Err, IfErr, subst, sym}
use Rattle.hg_machine.specs.Policy.{Policy}
use Rattle.hg_machine.specs.declared.Event.TheVariants as event
use Rattle.hg_heap.specs.declared.refused.Refused.{Refused}
use Rattle.hg_heap.specs.Answers.{done_answer}
use Rattle.hg_heap.specs.Allowed.{MayFree}
use Rattle.hg_run_worker.specs.AtWork.{number_in, shows_in}
use Rattle.hg_run_worker.specs.Lent.{IsTiedStep}
use Rattle.hg_run_worker.proofs.Course.{back_keeps, has_loan, held_still}
use Rattle.hg_run_worker.proofs.SlotsLent.{all_stays, held_there}
use Rattle.hg_run_worker.proofs.Ready.{has_called, rest_twice}
use Rattle.hg_run_worker.proofs.Lettable.{allows_in, may_free}
use Rattle.hg_run_worker.proofs.Ends.{free_ends}
use Rattle.hg_run_worker.proofs.worker.RunWorker.free_asked.Goals as goal
use Rattle.hg_run_worker.proofs.worker.RunWorker.free_asked.Goals.{After-free_here-freed}
use Rattle.hg_run_worker.proofs.worker.RunWorker.free_asked.Given.{Over}

pub free_here-freed-requires : goal.free_here-freed-requires
free_here-freed-requires g c = record {
  allowed =
      subst
      (λ (p : Policy).
      MayFree shows_in allows_in number_in p c.args.actor.0 c.args.handle c.lend.new.self.heap.segments)
      (sym c.lend.ensures.rest.policy)
      (may_free c.lend.ensures.lent c.requires.asked c.args.self.now.below);
}

-- the step at which the Free is tied
stepped : (g : Over) (c : After-free_here-freed g) → (word : ℕ) × (left : ℕ)
    × IsTiedStep c.args.self.now.policy c.args.handle.place.segment c.args.handle.place word left
    (event.Free c.args.actor c.args.handle) (done_answer c.free_here-freed.result)
    c.lend.new.self.heap.segments c.free_here-freed.new.self.segments
stepped g c =
    let l = c.lend.ensures.lent in
    let s =
    free_ends c.lend.new.self.policy c.args.actor c.args.handle c.lend.new.self.heap.segments
    c.free_here-freed.new.self.segments c.free_here-freed.result c.free_here-freed.ensures.freed
    (c.free_here-freed.ensures.denied (held_there l.once l.lent)) in (
      s.0,
      s.1,
      subst
          (λ (p : Policy).
          IsTiedStep p c.args.handle.place.segment c.args.handle.place s.0 s.1
          (event.Free c.args.actor c.args.handle) (done_answer c.free_here-freed.result)
          c.lend.new.self.heap.segments c.free_here-freed.new.self.segments)
          c.lend.ensures.rest.policy s.2,
    )

pub take_back-requires-clause-held : goal.take_back-requires-clause-held
take_back-requires-clause-held g c =
    let s = stepped g (goal.at.take_back-requires-clause-held g c).After-free_here-freed in
    held_still c.lend.ensures.lent c.requires.asked s.2 c.args.self.now.below

pub take_back-requires-clause-loan : goal.take_back-requires-clause-loan
take_back-requires-clause-loan g c =
    let s = stepped g (goal.at.take_back-requires-clause-loan g c).After-free_here-freed in
    has_loan c.lend.ensures.lent c.requires.asked s.2 c.args.self.now.below

pub returns-clause-called : goal.returns-clause-called
returns-clause-called g c =
    let s = stepped g (goal.at.returns-clause-called g c).After-free_here-freed in
    let e = c.take_back.ensures in
    has_called c.args.self.now c.take_back.new.self c.lend.ensures.lent c.requires.asked s.2 c.requires.ready
    (rest_twice c.args.self.now c.lend.new.self c.take_back.new.self c.lend.ensures.rest
    (record { table = e.rest.table; policy = e.rest.policy; number = e.rest.number; own = e.rest.own; hand = e.rest.hand }))
    e.back

-- what an error promises, by what the heap's promised
err_map : {X : Type 0} {P Q : Refused → Type 0} (r : Result X Refused) → ((f : Refused) → P f → Q f)
    → IfErr r P → IfErr r Q
err_map (Ok x) go is = is
err_map (Err f) go is = go f is

pub returns-clause-kept : goal.returns-clause-kept
returns-clause-kept g c =
    let s = stepped g (goal.at.returns-clause-kept g c).After-free_here-freed in
    let l = c.lend.ensures.lent in
    err_map c.free_here-freed.result
    (λ f kept.
    back_keeps l c.requires.asked s.2 c.args.self.now.below c.take_back.ensures.back
    ∙ kept ∙ all_stays l.once l.lent)
    c.free_here-freed.ensures.kept

pub returns-clause-lists : goal.returns-clause-lists
returns-clause-lists g c =
    err_map c.free_here-freed.result
    (λ f kept page. c.take_back.ensures.lists page ∙ kept page ∙ c.lend.ensures.lists page)
    c.free_here-freed.ensures.same_lists

pub returns-clause-queues : goal.returns-clause-queues
returns-clause-queues g c =
    err_map c.free_here-freed.result
    (λ f same. c.take_back.ensures.queues ∙ same ∙ c.lend.ensures.queues)
    c.free_here-freed.ensures.same_queues
