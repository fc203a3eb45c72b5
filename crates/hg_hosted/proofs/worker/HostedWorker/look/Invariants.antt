use Rattle.hg_table.specs.Named.{table_of_worker}
use Rattle.hg_hosted.proofs.worker.HostedWorker.look.Given as goal

abbrev pub ghosts-look_by-N-TableName : goal.ghosts-look_by-N-TableName
ghosts-look_by-N-TableName a = record { table = table_of_worker a.state.value.seat }

abbrev pub ghosts-look_by-N-ServiceName : goal.ghosts-look_by-N-ServiceName
ghosts-look_by-N-ServiceName a = record { policy = a.state.value.policy }
