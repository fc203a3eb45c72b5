use Rattle.hg_table.specs.Named.{table_of_worker}
use Rattle.hg_hosted.proofs.worker.HostedWorker.abandon.Given as goal

abbrev pub ghosts-abandon_by-N-TableName : goal.ghosts-abandon_by-N-TableName
ghosts-abandon_by-N-TableName a = record { table = table_of_worker a.state.value.seat }

abbrev pub ghosts-abandon_by-N-ServiceName : goal.ghosts-abandon_by-N-ServiceName
ghosts-abandon_by-N-ServiceName a = record { policy = a.state.value.policy }
