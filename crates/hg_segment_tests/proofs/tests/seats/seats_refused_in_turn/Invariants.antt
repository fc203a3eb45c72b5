use Rattle.hg_table.specs.Named.{table_of}
use Rattle.hg_segment_tests.proofs.tests.seats.seats_refused_in_turn.Given as goal

-- the table that was just made
abbrev pub ghosts-opened : goal.ghosts-opened
ghosts-opened g a = record { table = table_of a.table }
