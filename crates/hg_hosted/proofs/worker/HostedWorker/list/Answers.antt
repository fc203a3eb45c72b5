use Rattle.std.proofs.Common.{rules, refl}
use Rattle.hg_hosted.proofs.Undone.{serves_or_refused}
use Rattle.hg_hosted.proofs.worker.HostedWorker.list.Goals as goal

pub returns-clause-served : goal.returns-clause-served
returns-clause-served c = serves_or_refused _ _ _ c.in-Some.state c.list_by-rows.result.1 (search rules) refl
    c.list_by-rows.result.0 c.list_by-rows.ensures.done
