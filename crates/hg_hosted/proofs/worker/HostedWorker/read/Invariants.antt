use Rattle.hg_table.specs.Named.{table_of_worker}
use Rattle.hg_hosted.proofs.worker.HostedWorker.read.Given as goal

abbrev pub ghosts-read_by-N-TableName : goal.ghosts-read_by-N-TableName
ghosts-read_by-N-TableName a = record { table = table_of_worker a.state.value.seat }

abbrev pub ghosts-read_by-N-ServiceName : goal.ghosts-read_by-N-ServiceName
ghosts-read_by-N-ServiceName a = record { policy = a.state.value.policy }
