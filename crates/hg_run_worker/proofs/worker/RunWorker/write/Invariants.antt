use Rattle.hg_place.specs.declared.Right.TheVariants as right
use Rattle.hg_machine.specs.declared.Event.TheVariants as event
use Rattle.hg_heap.specs.Answers.{away_answer}
use Rattle.hg_heap.specs.Reading.{use_denial}
use Rattle.hg_run_worker.proofs.worker.RunWorker.write.Given as goal

abbrev pub ghosts-write_away : goal.ghosts-write_away
ghosts-write_away a = record {
  event = event.Write a.actor a.handle a.index a.value;
  refused = λ word.
      away_answer (use_denial a.self.now.policy a.actor.0 right.Write a.handle word);
}
