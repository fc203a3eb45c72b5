use Rattle.std.proofs.Common.{ap, ◌∙◌}
use Rattle.hg_heap.specs.Answers.{away_answer}
use Rattle.hg_heap.specs.Reading.{use_denial}
use Rattle.hg_machine.specs.Denial.{denial_on}
use Rattle.hg_place.specs.Slots.{slot_in}
use Rattle.hg_worker.specs.declared.state.WorkerState.{WorkerState}
use Rattle.hg_worker.proofs.Judged.{found_slot}
use Rattle.hg_worker.proofs.worker.Worker.out_of_reach.Goals as goal

pub returns-clause-judged : goal.returns-clause-judged
returns-clause-judged g c =
    let e = c.look_away-word.ensures.looks in
    let h = c.args.handle in
    let denial = denial_on c.args.self.now.inner.value.policy c.args.actor.0 c.args.right
    h.place.segment h.generation in (
      e.0,
      e.1,
      c.refused_answer.ensures ∙ c.denied_or_elsewhere.ensures
          ∙ ap (λ (w : WorkerState). away_answer (use_denial w.policy c.args.actor.0 c.args.right h
          c.look_away-word.result)) c.deref.ensures
          ∙ ap (λ p. away_answer (use_denial p c.args.actor.0 c.args.right h
          c.look_away-word.result))
          c.look_away-word.ensures.rest.policy
          ∙ ap (λ w. away_answer (denial (slot_in w))) e.2
          ∙ ap (λ s. away_answer (denial s)) (found_slot e.0),
    )
