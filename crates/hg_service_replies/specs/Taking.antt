-- What a service gives of its workers.
use Rattle.std.specs.Prelude.{◌≡◌, ◌≢◌, ℕ, List, Option, None, Some, Result, MatchOption}
use Rattle.std.specs.Prelude.{MatchResult, slice_get, slice_set}
use Rattle.hg_hosted.specs.declared.worker.HostedWorker.{HostedWorker}
use Rattle.hg_reply.specs.declared.reply.Reply.{Reply}
use Rattle.hg_reply.specs.Replies.{no_worker}
use Rattle.hg_service_replies.specs.declared.part.HostedPart.{HostedPart}
use Rattle.hg_service_replies.specs.declared.part.HostedPart.TheVariants as part
use Rattle.hg_service_replies.specs.declared.part.OpenService.{OpenService}
use Rattle.hg_service_replies.specs.declared.part.Ungiven.{Ungiven}
use Rattle.hg_service_replies.specs.Opening.{ready}
use Rattle.hg_service_replies.specs.Owned.{IsItsWorker}
use Rattle.hg_service_replies.specs.Serving.{IsOther}

-- the worker of the number stood ready, and is there no more; the others are
pub record IsTaken (old : List (Option Ungiven)) (number : ℕ) (worker : HostedWorker)
    (new : List (Option Ungiven)) : Type 0 where
  pub there : slice_get old number ≡ Some (ready worker)
  pub others : new ≡ slice_set old number None

-- no worker of the number stood ready, and what there was is
pub record IsNone (old : List (Option Ungiven)) (number : ℕ) (new : List (Option Ungiven))
    : Type 0 where
  pub out : (worker : HostedWorker) → slice_get old number ≢ Some (ready worker)
  pub same : new ≡ old

-- who stands ready at a place is taken from there; else what there is stays
abbrev pub Takes : Option Ungiven → Option HostedWorker → Option Ungiven → Type 0
Takes old result new =
    MatchOption result (((worker : HostedWorker) → old ≢ ready worker) × (new ≡ old))
    (λ worker. (old ≡ ready worker) × (new ≡ None))

-- a service changes its workers so, and nothing else
pub record Changes (old : OpenService)
    (does : List (Option Ungiven) → List (Option Ungiven) → Type 0) (new : HostedPart)
    : Type 0 where
  pub left : OpenService
  pub now : new ≡ part.Service left
  pub service : left.service ≡ old.service
  pub workers : does old.workers.items left.workers.items

-- a service gives its worker of this number, or has none ready there; any other part is answered as closed,
-- and stays
abbrev pub GivesWorker : HostedPart → ℕ → Result HostedWorker Reply → HostedPart → Type 0
GivesWorker (part.Service old) number result new =
    MatchResult result
    (λ worker. IsItsWorker old.service number worker
    × Changes old (λ was is. IsTaken was number worker is) new)
    (λ reply. (reply ≡ no_worker) × Changes old (λ was is. IsNone was number is) new)
GivesWorker (part.Worker old) number result new =
    MatchResult result (λ worker. ⊥) (λ reply. IsOther (part.Worker old) reply new)
GivesWorker (part.Core core) number result new =
    MatchResult result (λ worker. ⊥) (λ reply. IsOther (part.Core core) reply new)
GivesWorker (part.Left gone) number result new =
    MatchResult result (λ worker. ⊥) (λ reply. IsOther (part.Left gone) reply new)
GivesWorker part.Gone number result new =
    MatchResult result (λ worker. ⊥) (λ reply. IsOther part.Gone reply new)
