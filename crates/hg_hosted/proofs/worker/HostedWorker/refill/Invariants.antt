use Rattle.hg_table.specs.Named.{table_of_worker}
use Rattle.hg_hosted.proofs.worker.HostedWorker.refill.Given as goal

abbrev pub ghosts-refill_by-N-TableName : goal.ghosts-refill_by-N-TableName
ghosts-refill_by-N-TableName a = record { table = table_of_worker a.state.value.seat }

abbrev pub ghosts-refill_by-N-ServiceName : goal.ghosts-refill_by-N-ServiceName
ghosts-refill_by-N-ServiceName a = record { policy = a.state.value.policy }
