-- What a part of a service tells.
use Rattle.std.specs.Prelude.{◌≡◌, ℕ, Option, None, Some, length, option_map}
use Rattle.hg_place.specs.declared.Place.{Place}
use Rattle.hg_place.specs.Places.{number_of}
use Rattle.hg_place.specs.Words.{bit_of}
use Rattle.hg_machine.specs.Policy.{Policy}
use Rattle.hg_heap.specs.Held.{is_held}
use Rattle.hg_worker.specs.Seats.{number_in}
use Rattle.hg_worker.specs.declared.state.WorkerState.{WorkerState}
use Rattle.hg_reply.specs.declared.reply.Reply.{Reply}
use Rattle.hg_reply.specs.Replies.{closed, plain, valued}
use Rattle.hg_reply.specs.Naming.{named, nobody}
use Rattle.hg_hosted.specs.Has.{Has}
use Rattle.hg_service_replies.specs.declared.asking.PartQuestion.{PartQuestion}
use Rattle.hg_service_replies.specs.declared.asking.PartQuestion.TheVariants as question
use Rattle.hg_service_replies.specs.declared.part.HostedPart.{HostedPart}
use Rattle.hg_service_replies.specs.declared.part.HostedPart.TheVariants as part

-- what a service tells of its policy
abbrev pub policy_tells : Policy → PartQuestion → Reply
policy_tells policy question.Workers = valued 4 policy.workers
policy_tells policy question.Segments = valued 4 (length policy.segments)
policy_tells policy question.Own = closed
policy_tells policy (question.Holds segment) = closed
policy_tells policy question.Hand = closed

-- the place of what is in hand, or that nothing is
abbrev pub hand_reply : Option Place → Reply
hand_reply None = plain 21
hand_reply (Some place) = valued 4 (number_of place)

-- what a worker tells of its state
abbrev pub state_tells : WorkerState → PartQuestion → Reply
state_tells state question.Own = valued 4 state.number
state_tells state (question.Holds segment) =
    valued 4 (bit_of (is_held number_in state.heap.segments segment))
state_tells state question.Hand = hand_reply (option_map (λ handle. handle.place) state.hand)
state_tells state question.Workers = closed
state_tells state question.Segments = closed

-- each part tells what is asked of it, and any other is answered as closed
abbrev pub PartTells : HostedPart → PartQuestion → Reply → Type 0
PartTells (part.Worker worker) question reply = Has (λ state. reply ≡ state_tells state question) worker
PartTells (part.Service service) question reply = reply ≡ policy_tells service.service.policy question
PartTells (part.Core core) question reply = reply ≡ closed
PartTells (part.Left gone) question reply = reply ≡ closed
PartTells part.Gone question reply = reply ≡ closed

-- the number that goes by a name in the service's policy; any other part is answered as closed, and
-- the value is nobody's
abbrev pub PartFinds : HostedPart → (Policy → Option ℕ) → Reply → Type 0
PartFinds (part.Service service) number reply = reply ≡ named (number service.service.policy)
PartFinds (part.Worker worker) number reply = reply ≡ valued 64 nobody
PartFinds (part.Core core) number reply = reply ≡ valued 64 nobody
PartFinds (part.Left gone) number reply = reply ≡ valued 64 nobody
PartFinds part.Gone number reply = reply ≡ valued 64 nobody
