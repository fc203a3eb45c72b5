use Rattle.hg_table.specs.Named.{table_of_worker}
use Rattle.hg_hosted.proofs.worker.HostedWorker.write.Given as goal

abbrev pub ghosts-write_by-N-TableName : goal.ghosts-write_by-N-TableName
ghosts-write_by-N-TableName a = record { table = table_of_worker a.state.value.seat }

abbrev pub ghosts-write_by-N-ServiceName : goal.ghosts-write_by-N-ServiceName
ghosts-write_by-N-ServiceName a = record { policy = a.state.value.policy }
