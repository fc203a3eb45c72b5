use Rattle.hg_table.specs.Named.{table_of}
use Rattle.hg_hosted.proofs.service.HostedService.open.Given as goal

abbrev pub ghosts-opened-N-TableName : goal.ghosts-opened-N-TableName
ghosts-opened-N-TableName a = record { table = table_of a.table }

abbrev pub ghosts-opened-N-ServiceName : goal.ghosts-opened-N-ServiceName
ghosts-opened-N-ServiceName a = record { policy = a.policy }
