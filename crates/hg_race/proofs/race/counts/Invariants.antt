use Rattle.hg_table.specs.Named.{table_of}
use Rattle.hg_race.proofs.race.counts.Given as goal

-- the table that was just made, and its policy
abbrev pub ghosts-raced-N-TableName : goal.ghosts-raced-N-TableName
ghosts-raced-N-TableName g a = record { table = table_of a.table }

abbrev pub ghosts-raced-N-ServiceName : goal.ghosts-raced-N-ServiceName
ghosts-raced-N-ServiceName g a = record { policy = a.policy }
