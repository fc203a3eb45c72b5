use Rattle.hg_table.specs.Named.{table_of_worker}
use Rattle.hg_hosted.proofs.worker.HostedWorker.collect.Given as goal

abbrev pub ghosts-collect_by-N-TableName : goal.ghosts-collect_by-N-TableName
ghosts-collect_by-N-TableName a = record { table = table_of_worker a.state.value.seat }

abbrev pub ghosts-collect_by-N-ServiceName : goal.ghosts-collect_by-N-ServiceName
ghosts-collect_by-N-ServiceName a = record { policy = a.state.value.policy }
