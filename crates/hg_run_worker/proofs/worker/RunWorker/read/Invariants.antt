use Rattle.hg_place.specs.declared.Right.TheVariants as right
use Rattle.hg_machine.specs.declared.Event.TheVariants as event
use Rattle.hg_heap.specs.Answers.{away_answer}
use Rattle.hg_heap.specs.Reading.{use_denial}
use Rattle.hg_run_worker.proofs.worker.RunWorker.read.Given as goal

abbrev pub ghosts-read_away : goal.ghosts-read_away
ghosts-read_away a = record {
  event = event.Read a.actor a.handle a.index;
  refused = λ word.
      away_answer (use_denial a.self.now.policy a.actor.0 right.Read a.handle word);
}
