use Rattle.std.specs.Prelude.{[], ◌∷◌}
use Rattle.hg_machine.specs.declared.Event.TheVariants as event
use Rattle.hg_run_worker.proofs.worker.RunWorker.write_here.Given as goal

abbrev pub ghosts-write_asked : goal.ghosts-write_asked
ghosts-write_asked a = record { asked = (event.Write a.actor a.handle a.index a.value ∷ []) ∷ [] }
