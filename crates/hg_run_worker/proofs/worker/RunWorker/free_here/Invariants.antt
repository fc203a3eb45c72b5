use Rattle.std.specs.Prelude.{[], ◌∷◌}
use Rattle.hg_machine.specs.declared.Event.TheVariants as event
use Rattle.hg_run_worker.proofs.worker.RunWorker.free_here.Given as goal

abbrev pub ghosts-free_asked : goal.ghosts-free_asked
ghosts-free_asked a = record { asked = (event.Free a.actor a.handle ∷ []) ∷ [] }
