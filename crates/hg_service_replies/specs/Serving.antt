-- What a part of a service answers an event.
use Rattle.std.specs.Prelude.{◌≡◌, Option, None, Some, MatchOption}
use Rattle.hg_machine.specs.declared.Answer.{Answer}
use Rattle.hg_machine.specs.declared.Event.{Event}
use Rattle.hg_hosted.specs.declared.worker.HostedWorker.{HostedWorker}
use Rattle.hg_hosted.specs.Reaching.{Reaches}
use Rattle.hg_hosted.specs.Serving.{Serves}
use Rattle.hg_hosted.specs.Steps.{Does}
use Rattle.hg_hosted.specs.Waiting.{Waits}
use Rattle.hg_reply.specs.declared.reply.Reply.{Reply}
use Rattle.hg_reply.specs.Replies.{again, closed, reply_of}
use Rattle.hg_service_replies.specs.declared.part.HostedPart.{HostedPart}
use Rattle.hg_service_replies.specs.declared.part.HostedPart.TheVariants as part

-- what came of an event, where it was served
abbrev pub told : Option Answer → Reply
told None = again
told (Some answer) = reply_of answer

-- A worker serves the event by the call of its name, and the reply stands for its answer; or the
-- event needs what workers share, and nothing is done. Of that it changes no more than the event may
pub record WorkerServes (old : HostedWorker) (event : Event) (reply : Reply) (new : HostedWorker)
    : Type 0 where
  pub answer : Option Answer
  pub told : reply ≡ told answer
  pub does :
      MatchOption answer (Serves (Waits event) old new)
      (λ answer. Serves (Does event answer) old new)
  pub reach : Reaches event old new

-- it isn't what was asked for, and stays
pub record IsOther (old : HostedPart) (reply : Reply) (new : HostedPart) : Type 0 where
  pub reply_is : reply ≡ closed
  pub same : new ≡ old

-- a worker serves, and stays a worker; any other part is answered so
abbrev pub PartServes : HostedPart → Event → Reply → HostedPart → Type 0
PartServes (part.Worker old) event reply new =
    (left : HostedWorker) × (new ≡ part.Worker left) × WorkerServes old event reply left
PartServes (part.Service service) event reply new = IsOther (part.Service service) reply new
PartServes (part.Core core) event reply new = IsOther (part.Core core) reply new
PartServes (part.Left gone) event reply new = IsOther (part.Left gone) reply new
PartServes part.Gone event reply new = IsOther part.Gone reply new
