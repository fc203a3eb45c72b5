use Rattle.hg_run_table.specs.Reshaping.{front}
use Rattle.hg_run_worker.proofs.worker.RunWorker.new.Given as goal

-- the worker's part of the run goes to a seat of its own
abbrev pub ghosts-split : goal.ghosts-split
ghosts-split a = record { stay = 0; lives = front 1 }
