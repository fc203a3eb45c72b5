use Rattle.std.specs.Prelude.{[], ◌∷◌}
use Rattle.hg_machine.specs.declared.Event.TheVariants as event
use Rattle.hg_run_worker.proofs.worker.RunWorker.look_here.Given as goal

abbrev pub ghosts-look_asked : goal.ghosts-look_asked
ghosts-look_asked a = record { asked = (event.Look a.actor a.place ∷ []) ∷ [] }
