use Rattle.hg_table.specs.Named.{table_of}
use Rattle.hg_segment_tests.proofs.tests.two_parts.two_parts.Given as goal

-- the table that was just made
abbrev pub ghosts-parted : goal.ghosts-parted
ghosts-parted g a = record { table = table_of a.table }
