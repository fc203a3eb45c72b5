use Rattle.hg_table.specs.Named.{table_of}
use Rattle.hg_stress.proofs.stressed.Given as goal

-- the service is that of the table which was just made, and of its policy
abbrev pub ghosts-stress-N-TableName : goal.ghosts-stress-N-TableName
ghosts-stress-N-TableName g a = record { table = table_of a.table }

abbrev pub ghosts-stress-N-ServiceName : goal.ghosts-stress-N-ServiceName
ghosts-stress-N-ServiceName g a = record { policy = a.policy }
