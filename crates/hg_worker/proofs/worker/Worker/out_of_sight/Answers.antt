use Rattle.std.proofs.Common.{ap, max, ◌∙◌}
use Rattle.hg_heap.specs.Answers.{away_answer, list_denial}
use Rattle.hg_machine.specs.Denial.{denial_on}
use Rattle.hg_place.specs.Slots.{Slot}
use Rattle.hg_place.specs.declared.Right.TheVariants as right
use Rattle.hg_worker.specs.declared.state.WorkerState.{WorkerState}
use Rattle.hg_worker.proofs.Judged.{found_slot}
use Rattle.hg_worker.proofs.worker.Worker.out_of_sight.Goals as goal

pub returns-clause-judged : goal.returns-clause-judged
returns-clause-judged g c =
    let e = c.look_away-word.ensures.looks in
    let policy = c.args.self.now.inner.value.policy in
    let place = c.args.place in (
      e.0,
      e.1,
      c.refused_answer.ensures ∙ c.unlisted.ensures
          ∙ ap (λ (w : WorkerState). away_answer (list_denial w.policy c.args.actor place
          c.look_away-word.result)) c.deref.ensures
          ∙ ap (λ p. away_answer (list_denial p c.args.actor place c.look_away-word.result))
          c.look_away-word.ensures.rest.policy
          ∙ ap (λ w. away_answer (list_denial policy c.args.actor place w)) e.2
          ∙ ap (λ (s : Slot). away_answer (denial_on policy c.args.actor.0 right.List place.segment
          (max 1 s.generation) s)) (found_slot e.0),
    )
