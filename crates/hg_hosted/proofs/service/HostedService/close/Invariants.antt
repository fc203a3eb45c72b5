use Rattle.crossbeam_queue.specs.Passes.{view}
use Rattle.hg_hosted.specs.Shared.{known_table}
use Rattle.hg_hosted.proofs.service.HostedService.close.Given as goal

abbrev pub ghosts-give_up-N-TableName : goal.ghosts-give_up-N-TableName
ghosts-give_up-N-TableName a =
    let left = a.service.shared.left.pass in
    record { table = known_table left.table_id (view left).known }

abbrev pub ghosts-give_up-N-ServiceName : goal.ghosts-give_up-N-ServiceName
ghosts-give_up-N-ServiceName a = record { policy = a.service.policy }
