use Rattle.hg_table.specs.Named.{table_of_worker}
use Rattle.hg_hosted.proofs.worker.HostedWorker.alloc.Given as goal

abbrev pub ghosts-alloc_by-N-TableName : goal.ghosts-alloc_by-N-TableName
ghosts-alloc_by-N-TableName a = record { table = table_of_worker a.state.value.seat }

abbrev pub ghosts-alloc_by-N-ServiceName : goal.ghosts-alloc_by-N-ServiceName
ghosts-alloc_by-N-ServiceName a = record { policy = a.state.value.policy }
