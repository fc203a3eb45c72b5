use Rattle.std.specs.Prelude.{[], ◌∷◌}
use Rattle.hg_machine.specs.declared.Event.TheVariants as event
use Rattle.hg_run_worker.proofs.worker.RunWorker.read_here.Given as goal

abbrev pub ghosts-read_asked : goal.ghosts-read_asked
ghosts-read_asked a = record { asked = (event.Read a.actor a.handle a.index ∷ []) ∷ [] }
