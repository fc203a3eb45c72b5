use Rattle.std.proofs.Common.{rules, refl}
use Rattle.hg_machine.specs.declared.Event.TheVariants as event
use Rattle.hg_hosted.proofs.Reaching.{reaches}
use Rattle.hg_hosted.proofs.Undone.{serves_or_waits}
use Rattle.hg_hosted.proofs.worker.HostedWorker.abandon.Goals as goal

pub returns-clause-served : goal.returns-clause-served
returns-clause-served c = serves_or_waits (event.Abandon c.args.segment) _ _ _ c.in-Some.state c.abandon_by-answer.result.1 (search rules) refl
    c.abandon_by-answer.result.0 c.abandon_by-answer.ensures.done

pub returns-clause-reach : goal.returns-clause-reach
returns-clause-reach c = reaches (event.Abandon c.args.segment) _ _ c.in-Some.state (search rules)
    c.abandon_by-answer.ensures.alone c.abandon_by-answer.ensures.touched c.abandon_by-answer.ensures.places
