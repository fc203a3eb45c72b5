use Rattle.std.proofs.Common.{◌+◌, length}
use Rattle.hg_run_table.specs.Reshaping.{front}
use Rattle.hg_run_table.proofs.table.RunTable.open.Given as goal

-- the seats of segments come last
abbrev pub ghosts-split : goal.ghosts-split
ghosts-split a = record {
  stay = a.self.now.table.shared.key.workers + length a.self.now.table.shared.key.segments + 1;
  lives = front 1;
}
