use Rattle.hg_run_table.specs.Reshaping.{front}
use Rattle.hg_run_worker.proofs.worker.RunWorker.cut_own.Given as goal

-- the worker's part of the run stays, and what is known of words and lives goes
abbrev pub ghosts-split : goal.ghosts-split
ghosts-split a = record { stay = 1; lives = front 0 }
