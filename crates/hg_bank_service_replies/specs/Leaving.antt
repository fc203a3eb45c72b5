-- How a bank worker leaves its bank of services.
use Rattle.std.specs.Prelude.{◌≡◌, ℕ, List, [], MatchOption}
use Rattle.hg_hosted.specs.declared.worker.HostedWorker.{HostedWorker}
use Rattle.hg_worker.specs.declared.state.WorkerState.{WorkerState}
use Rattle.hg_reply.specs.declared.reply.Reply.{Reply}
use Rattle.hg_reply.specs.Replies.{again, plain}
use Rattle.hg_bank_replies.specs.Replies.{placed}
use Rattle.hg_hosted.specs.Has.{Has}
use Rattle.hg_hosted.specs.Leaving.{HoldsFirst}
use Rattle.hg_bank_service.specs.Idle.{AreIdleFrom}
use Rattle.hg_bank_service.specs.Leaving.{AreLeft, GoesOnLeaving, IsFirstBusy}
use Rattle.hg_bank_service.specs.declared.unleft.Leaving.{Leaving}
use Rattle.hg_bank_service.specs.declared.worker.BankWorker.{BankWorker}
use Rattle.hg_bank_service_replies.specs.declared.part.BankPart.{BankPart}
use Rattle.hg_bank_service_replies.specs.declared.part.BankPart.TheVariants as part
use Rattle.hg_bank_service_replies.specs.Serving.{IsOther}

-- what is told of a worker that is busy in this core: a block in hand, or else the lowest segment that
-- it holds
abbrev pub TellsBusy : ℕ → Reply → WorkerState → Type 0
TellsBusy core reply state =
    MatchOption state.hand
    ((segment : ℕ) × HoldsFirst segment state × (reply ≡ placed 27 core segment))
    (λ handle. reply ≡ placed 20 core 0)

-- why it stays: what the worker of the lowest core that has something has there
pub record StaysFor (workers : List HostedWorker) (reply : Reply) : Type 0 where
  pub core : ℕ
  pub first : IsFirstBusy workers core
  pub told : Has (TellsBusy core reply) first.worker

-- it has left, and has a receipt of each core, from the highest down; or stays as it was; or is
-- leaving, since another call has what it has to put back, and none of its workers is busy
abbrev pub WorkerLeaves : BankWorker → Reply → BankPart → Type 0
WorkerLeaves old reply (part.Left gone) =
    (reply ≡ plain 2) × AreIdleFrom 0 old.workers.items
    × AreLeft old.workers.items [] [] gone.items
WorkerLeaves old reply (part.Worker back) = (back ≡ old) × StaysFor old.workers.items reply
WorkerLeaves old reply (part.Leaving left) =
    (reply ≡ again) × AreIdleFrom 0 old.workers.items
    × GoesOnLeaving old.workers.items [] left
WorkerLeaves old reply (part.Service opened) = ⊥
WorkerLeaves old reply (part.Bank bank) = ⊥
WorkerLeaves old reply part.Gone = ⊥

-- one that is leaving has left, and has a receipt of each core that hadn't, behind those that there
-- were; or some of its workers still haven't
abbrev pub LeavingGoesOn : Leaving → Reply → BankPart → Type 0
LeavingGoesOn old reply (part.Left gone) =
    (reply ≡ plain 2) × AreLeft old.workers.items old.gone.items [] gone.items
LeavingGoesOn old reply (part.Leaving left) =
    (reply ≡ again) × GoesOnLeaving old.workers.items old.gone.items left
LeavingGoesOn old reply (part.Worker worker) = ⊥
LeavingGoesOn old reply (part.Service opened) = ⊥
LeavingGoesOn old reply (part.Bank bank) = ⊥
LeavingGoesOn old reply part.Gone = ⊥

-- any other part is answered as closed, and stays
abbrev pub PartLeaves : BankPart → Reply → BankPart → Type 0
PartLeaves (part.Worker old) reply new = WorkerLeaves old reply new
PartLeaves (part.Leaving old) reply new = LeavingGoesOn old reply new
PartLeaves (part.Service opened) reply new = IsOther (part.Service opened) reply new
PartLeaves (part.Bank bank) reply new = IsOther (part.Bank bank) reply new
PartLeaves (part.Left gone) reply new = IsOther (part.Left gone) reply new
PartLeaves part.Gone reply new = IsOther part.Gone reply new
