-- The blocks that a worker holds in one core are shown.
use Rattle.std.specs.Prelude.{◌≡◌, ℕ, List, [], MatchOption, slice_get, slice_set}
use Rattle.hg_place.specs.declared.Actor.{Actor}
use Rattle.hg_machine.specs.declared.Row.{Row}
use Rattle.hg_hosted.specs.Behind.{Stays}
use Rattle.hg_hosted.specs.Calls.{ListsAll}
use Rattle.hg_hosted.specs.Serving.{Serves}
use Rattle.hg_hosted.specs.declared.worker.HostedWorker.{HostedWorker}
use Rattle.hg_bank_service.specs.Named.{KeepsRest}
use Rattle.hg_bank_service.specs.declared.worker.BankWorker.{BankWorker}

-- the worker of one core serves so, and each other is as it was
pub record ChangesOne (Does : HostedWorker → HostedWorker → Type 0) (core : ℕ)
    (old new : BankWorker) (was : HostedWorker) : Type 0 where
  pub next : HostedWorker
  pub after : new.workers.items ≡ slice_set old.workers.items core next
  pub does : Does was next
  pub shared : next.shared ≡ was.shared
  pub rest : KeepsRest old new

-- these rows are shown in a core; in one that isn't there, none
abbrev pub ListsIn : ℕ → Actor → List Row → BankWorker → BankWorker → Type 0
ListsIn core actor rows old new =
    MatchOption (slice_get old.workers.items core) ((rows ≡ []) × (new ≡ old))
    (ChangesOne (Serves (ListsAll actor rows)) core old new)

-- memory was refused, of a core that is there, and nothing was looked at
abbrev pub ListsNothing : ℕ → BankWorker → BankWorker → Type 0
ListsNothing core old new =
    MatchOption (slice_get old.workers.items core) ⊥ (ChangesOne (Serves Stays) core old new)
