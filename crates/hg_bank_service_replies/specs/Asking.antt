-- What a part of a bank of services tells.
use Rattle.std.specs.Prelude.{◌≡◌, ℕ, Option, None, Some, MatchOption, length, option_map}
use Rattle.std.specs.Prelude.{if◌then◌else◌, slice_get}
use Rattle.hg_place.specs.Words.{bit_of}
use Rattle.hg_machine.specs.Policy.{Policy, is_tenant}
use Rattle.hg_heap.specs.Held.{is_held}
use Rattle.hg_worker.specs.Seats.{number_in}
use Rattle.hg_reply.specs.declared.reply.Reply.{Reply}
use Rattle.hg_reply.specs.Replies.{closed, no_name, plain, valued}
use Rattle.hg_reply.specs.Naming.{named, nobody}
use Rattle.hg_service_replies.specs.Asking.{hand_reply}
use Rattle.hg_hosted.specs.Has.{Has}
use Rattle.hg_bank_service.specs.Sums.{charge_over}
use Rattle.hg_bank_service.specs.State.{ServicesState}
use Rattle.hg_bank_service.specs.declared.worker.BankWorker.{BankWorker}
use Rattle.hg_bank_service_replies.specs.Owned.{cores_of}
use Rattle.hg_bank_service_replies.specs.declared.asking.BankPartQuestion.{BankPartQuestion}
use Rattle.hg_bank_service_replies.specs.declared.asking.BankPartQuestion.TheVariants as question
use Rattle.hg_bank_service_replies.specs.declared.part.BankPart.{BankPart}
use Rattle.hg_bank_service_replies.specs.declared.part.BankPart.TheVariants as part

-- what a bank of services tells
abbrev pub service_tells : ServicesState → BankPartQuestion → Reply
service_tells service question.Cores = valued 4 (cores_of service)
service_tells service question.Workers = valued 4 service.policy.workers
service_tells service question.Segments = valued 4 (length service.policy.segments)
service_tells service question.Own = closed
service_tells service question.OwnCores = closed
service_tells service (question.Holds core segment) = closed
service_tells service (question.Hand core) = closed
service_tells service (question.Charge tenant) = closed

-- whether it holds a segment of a core; nobody does where the core isn't there
abbrev pub TellsHeld : BankWorker → ℕ → ℕ → Reply → Type 0
TellsHeld worker core segment reply =
    MatchOption (slice_get worker.workers.items core) (reply ≡ valued 4 0)
    (Has (λ state. reply ≡ valued 4 (bit_of (is_held number_in state.heap.segments segment))))

-- the place of what is in hand in a core, or that nothing is, as in one that isn't there
abbrev pub TellsHand : BankWorker → ℕ → Reply → Type 0
TellsHand worker core reply =
    MatchOption (slice_get worker.workers.items core) (reply ≡ plain 21)
    (Has (λ state. reply ≡ hand_reply (option_map (λ handle. handle.place) state.hand)))

-- what counts against a tenant's limit, over all cores, or that there is no such tenant
abbrev pub charged : BankWorker → ℕ → Reply
charged worker tenant =
    if is_tenant worker.policy tenant then valued 4 (charge_over worker.workers.items tenant)
    else no_name

-- what a bank worker tells
abbrev pub WorkerTells : BankWorker → BankPartQuestion → Reply → Type 0
WorkerTells worker question.Own reply = reply ≡ valued 4 worker.number
WorkerTells worker question.OwnCores reply = reply ≡ valued 4 (length worker.workers.items)
WorkerTells worker (question.Holds core segment) reply = TellsHeld worker core segment reply
WorkerTells worker (question.Hand core) reply = TellsHand worker core reply
WorkerTells worker (question.Charge tenant) reply = reply ≡ charged worker tenant
WorkerTells worker question.Cores reply = reply ≡ closed
WorkerTells worker question.Workers reply = reply ≡ closed
WorkerTells worker question.Segments reply = reply ≡ closed

-- each part tells what is asked of it, and any other is answered as closed
abbrev pub PartTells : BankPart → BankPartQuestion → Reply → Type 0
PartTells (part.Worker worker) question reply = WorkerTells worker question reply
PartTells (part.Service opened) question reply = reply ≡ service_tells opened.service question
PartTells (part.Leaving left) question reply = reply ≡ closed
PartTells (part.Bank bank) question reply = reply ≡ closed
PartTells (part.Left gone) question reply = reply ≡ closed
PartTells part.Gone question reply = reply ≡ closed

-- the number that goes by a name in the policy of a bank of services; any other part is answered as
-- closed, and the value is nobody's
abbrev pub PartFinds : BankPart → (Policy → Option ℕ) → Reply → Type 0
PartFinds (part.Service opened) number reply = reply ≡ named (number opened.service.policy)
PartFinds (part.Worker worker) number reply = reply ≡ valued 64 nobody
PartFinds (part.Leaving left) number reply = reply ≡ valued 64 nobody
PartFinds (part.Bank bank) number reply = reply ≡ valued 64 nobody
PartFinds (part.Left gone) number reply = reply ≡ valued 64 nobody
PartFinds part.Gone number reply = reply ≡ valued 64 nobody
