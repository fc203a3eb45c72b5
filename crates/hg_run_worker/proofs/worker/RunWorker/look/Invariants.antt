use Rattle.hg_machine.specs.declared.Event.TheVariants as event
use Rattle.hg_heap.specs.Answers.{away_answer, list_denial}
use Rattle.hg_run_worker.proofs.worker.RunWorker.look.Given as goal

abbrev pub ghosts-look_away : goal.ghosts-look_away
ghosts-look_away a = record {
  event = event.Look a.actor a.place;
  refused = λ word. away_answer (list_denial a.self.now.policy a.actor a.place word);
}
