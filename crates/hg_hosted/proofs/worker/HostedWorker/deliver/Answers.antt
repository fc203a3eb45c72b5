use Rattle.std.proofs.Common.{rules, refl}
use Rattle.hg_machine.specs.declared.Event.TheVariants as event
use Rattle.hg_hosted.proofs.Reaching.{reaches}
use Rattle.hg_hosted.proofs.Undone.{serves_or_waits}
use Rattle.hg_hosted.proofs.worker.HostedWorker.deliver.Goals as goal

pub returns-clause-served : goal.returns-clause-served
returns-clause-served c = serves_or_waits event.Deliver _ _ _ c.in-Some.state c.deliver_by-answer.result.1 (search rules) refl
    c.deliver_by-answer.result.0 c.deliver_by-answer.ensures.done

pub returns-clause-reach : goal.returns-clause-reach
returns-clause-reach c = reaches event.Deliver _ _ c.in-Some.state (search rules)
    c.deliver_by-answer.ensures.alone c.deliver_by-answer.ensures.touched c.deliver_by-answer.ensures.places
