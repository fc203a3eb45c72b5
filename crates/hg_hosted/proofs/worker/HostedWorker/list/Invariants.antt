use Rattle.hg_table.specs.Named.{table_of_worker}
use Rattle.hg_hosted.proofs.worker.HostedWorker.list.Given as goal

abbrev pub ghosts-list_by-N-TableName : goal.ghosts-list_by-N-TableName
ghosts-list_by-N-TableName a = record { table = table_of_worker a.state.value.seat }

abbrev pub ghosts-list_by-N-ServiceName : goal.ghosts-list_by-N-ServiceName
ghosts-list_by-N-ServiceName a = record { policy = a.state.value.policy }
