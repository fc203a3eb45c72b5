-- How a worker leaves its service.
use Rattle.std.specs.Prelude.{◌≡◌, ◌≢◌, ℕ, None, Result, MatchResult}
use Rattle.hg_hosted.specs.declared.worker.HostedWorker.{HostedWorker}
use Rattle.hg_hosted.specs.Departing.{IsBack, IsGone}
use Rattle.hg_hosted.specs.Has.{Has}
use Rattle.hg_hosted.specs.Leaving.{HoldsFirst, HoldsNone, IsIdle}
use Rattle.hg_hosted.specs.declared.leaving.Departed.{Departed}
use Rattle.hg_reply.specs.declared.reply.Reply.{Reply}
use Rattle.hg_reply.specs.Replies.{again, plain, valued}
use Rattle.hg_service_replies.specs.declared.part.HostedPart.{HostedPart}
use Rattle.hg_service_replies.specs.declared.part.HostedPart.TheVariants as part
use Rattle.hg_service_replies.specs.Serving.{IsOther}

-- why it stays, by the first that is so: a block in hand, the lowest segment that it holds, or that
-- another call has what it has to put back
pub record StaysFor (worker : HostedWorker) (reply : Reply) : Type 0 where
  pub hand : Has (λ state. state.hand ≢ None) worker → reply ≡ plain 20
  pub holds :
      Has (λ state. state.hand ≡ None) worker → Has (λ state. ¬ (HoldsNone state)) worker
      → (segment : ℕ) × Has (HoldsFirst segment) worker × (reply ≡ valued 27 segment)
  pub shared : Has IsIdle worker → reply ≡ again

-- it was idle and has left, by this receipt, or comes back with the reason
abbrev pub Leaves : HostedWorker → Result Departed (HostedWorker × Reply) → Type 0
Leaves worker result =
    MatchResult result (λ gone. Has IsIdle worker × IsGone worker gone)
    (λ back. IsBack worker back.0 × StaysFor worker back.1)

-- a worker has left, and its receipt is there, or it stays
abbrev pub WorkerLeaves : HostedWorker → Reply → HostedPart → Type 0
WorkerLeaves old reply (part.Left gone) =
    (reply ≡ plain 2) × Has IsIdle old × IsGone old gone
WorkerLeaves old reply (part.Worker back) = IsBack old back × StaysFor old reply
WorkerLeaves old reply (part.Service service) = ⊥
WorkerLeaves old reply (part.Core core) = ⊥
WorkerLeaves old reply part.Gone = ⊥

-- any other part is answered as closed, and stays
abbrev pub PartLeaves : HostedPart → Reply → HostedPart → Type 0
PartLeaves (part.Worker old) reply new = WorkerLeaves old reply new
PartLeaves (part.Service service) reply new = IsOther (part.Service service) reply new
PartLeaves (part.Core core) reply new = IsOther (part.Core core) reply new
PartLeaves (part.Left gone) reply new = IsOther (part.Left gone) reply new
PartLeaves part.Gone reply new = IsOther part.Gone reply new
