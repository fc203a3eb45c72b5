use Rattle.hg_run_table.specs.Reshaping.{front}
use Rattle.hg_run_worker.proofs.worker.RunWorker.lend_quietly.Given as goal

-- the worker's part goes to a seat that is lent
abbrev pub ghosts-split : goal.ghosts-split
ghosts-split a = record { stay = 0; lives = front 0 }
