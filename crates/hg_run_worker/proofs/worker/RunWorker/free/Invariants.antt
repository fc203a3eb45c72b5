use Rattle.std.specs.Prelude.{Some}
use Rattle.hg_place.specs.declared.Right.TheVariants as right
use Rattle.hg_machine.specs.declared.Event.TheVariants as event
use Rattle.hg_heap.specs.Reading.{use_denial}
use Rattle.hg_run_worker.proofs.worker.RunWorker.free.Given as goal

abbrev pub ghosts-free_away : goal.ghosts-free_away
ghosts-free_away a = record {
  event = event.Free a.actor a.handle;
  denial = λ word. use_denial a.self.now.policy a.actor.0 right.Free a.handle word;
  freed = Some a.handle;
}
