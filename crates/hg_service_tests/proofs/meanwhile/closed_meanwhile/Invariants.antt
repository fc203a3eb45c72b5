use Rattle.hg_table.specs.Named.{table_of}
use Rattle.hg_service_tests.proofs.meanwhile.closed_meanwhile.Given as goal

-- the table that was just made, and its policy
abbrev pub ghosts-asked_meanwhile-N-TableName : goal.ghosts-asked_meanwhile-N-TableName
ghosts-asked_meanwhile-N-TableName g a = record { table = table_of a.made.1 }

abbrev pub ghosts-asked_meanwhile-N-ServiceName : goal.ghosts-asked_meanwhile-N-ServiceName
ghosts-asked_meanwhile-N-ServiceName g a = record { policy = a.made.0 }
