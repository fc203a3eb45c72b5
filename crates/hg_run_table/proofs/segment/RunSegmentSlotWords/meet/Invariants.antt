use Rattle.std.specs.Prelude.{length}
use Rattle.hg_run_table.specs.Reshaping.{front}
use Rattle.hg_run_table.proofs.segment.RunSegmentSlotWords.meet.Given as goal

abbrev pub ghosts-split : goal.ghosts-split
ghosts-split a = record { stay = length a.seat.now.seat.me.0.run; lives = front 1 }
