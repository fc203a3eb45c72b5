use Rattle.std.specs.Prelude.{[], ◌∷◌}
use Rattle.hg_machine.specs.declared.Event.TheVariants as event
use Rattle.hg_run_table.specs.Reshaping.{front}
use Rattle.hg_run_table_tests.proofs.segments.lent.Given as goal

-- the worker's part of the run goes to a seat of its own
abbrev pub ghosts-split : goal.ghosts-split
ghosts-split a = record { stay = 0; lives = front 1 }

-- the worker is asked one event
abbrev pub ghosts-ask : goal.ghosts-ask
ghosts-ask a = record { asked = (event.Collect ∷ []) ∷ [] }
