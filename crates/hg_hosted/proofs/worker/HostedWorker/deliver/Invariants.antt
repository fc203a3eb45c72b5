use Rattle.hg_table.specs.Named.{table_of_worker}
use Rattle.hg_hosted.proofs.worker.HostedWorker.deliver.Given as goal

abbrev pub ghosts-deliver_by-N-TableName : goal.ghosts-deliver_by-N-TableName
ghosts-deliver_by-N-TableName a = record { table = table_of_worker a.state.value.seat }

abbrev pub ghosts-deliver_by-N-ServiceName : goal.ghosts-deliver_by-N-ServiceName
ghosts-deliver_by-N-ServiceName a = record { policy = a.state.value.policy }
