use Rattle.hg_table.specs.Named.{table_of_worker}
use Rattle.hg_hosted.proofs.worker.HostedWorker.free.Given as goal

abbrev pub ghosts-free_by-N-TableName : goal.ghosts-free_by-N-TableName
ghosts-free_by-N-TableName a = record { table = table_of_worker a.state.value.seat }

abbrev pub ghosts-free_by-N-ServiceName : goal.ghosts-free_by-N-ServiceName
ghosts-free_by-N-ServiceName a = record { policy = a.state.value.policy }
