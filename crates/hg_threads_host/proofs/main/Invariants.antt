use Rattle.hg_table.specs.Named.{table_of}
use Rattle.hg_threads_host.proofs.main.Given as goal

-- the service is that of the table which was just made, and of its policy
abbrev pub ghosts-host-N-TableName : goal.ghosts-host-N-TableName
ghosts-host-N-TableName g a = record { table = table_of a.table }

abbrev pub ghosts-host-N-ServiceName : goal.ghosts-host-N-ServiceName
ghosts-host-N-ServiceName g a = record { policy = a.policy }
