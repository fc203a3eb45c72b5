use Rattle.hg_table.specs.Named.{table_of_worker}
use Rattle.hg_hosted.proofs.worker.HostedWorker.take.Given as goal

abbrev pub ghosts-take_by-N-TableName : goal.ghosts-take_by-N-TableName
ghosts-take_by-N-TableName a = record { table = table_of_worker a.state.value.seat }

abbrev pub ghosts-take_by-N-ServiceName : goal.ghosts-take_by-N-ServiceName
ghosts-take_by-N-ServiceName a = record { policy = a.state.value.policy }
