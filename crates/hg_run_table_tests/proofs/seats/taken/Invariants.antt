use Rattle.std.specs.Prelude.{[], ◌∷◌}
use Rattle.hg_machine.specs.declared.Event.TheVariants as event
use Rattle.hg_run_table_tests.proofs.seats.taken.Given as goal

-- the seat's second part is the segment's
abbrev pub ghosts-take : goal.ghosts-take
ghosts-take a = record { by = 1 }

-- the worker is asked one event
abbrev pub ghosts-ask : goal.ghosts-ask
ghosts-ask a = record { asked = (event.Collect ∷ []) ∷ [] }
