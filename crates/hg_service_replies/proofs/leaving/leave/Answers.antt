use Rattle.std.proofs.Common.{subst}
use Rattle.hg_service_replies.specs.declared.part.HostedPart.{HostedPart}
use Rattle.hg_service_replies.specs.declared.part.HostedPart.TheVariants as part
use Rattle.hg_service_replies.specs.Leaving.{PartLeaves}
use Rattle.hg_service_replies.proofs.leaving.leave.Goals as goal

pub returns-in-Ok : goal.returns-in-Ok
returns-in-Ok c =
    subst (λ (p : HostedPart). PartLeaves p c.plain.result (part.Left c.in-Ok.gone)) c.in-Worker.ensures.value
    (c.plain.ensures, c.in-Ok.ensures.0, c.in-Ok.ensures.1)

pub returns-in-Err : goal.returns-in-Err
returns-in-Err c =
    subst (λ (p : HostedPart). PartLeaves p c.in-Err.why (part.Worker c.in-Err.back)) c.in-Worker.ensures.value
    (c.in-Err.ensures.0, c.in-Err.ensures.1)
