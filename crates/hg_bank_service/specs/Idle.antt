-- Workers that may leave.
use Rattle.std.specs.Prelude.{◌≡◌, ℕ, ◌≤◌, List, Option, Some, MatchOption, slice_get}
use Rattle.hg_hosted.specs.declared.worker.HostedWorker.{HostedWorker}
use Rattle.hg_hosted.specs.Leaving.{HoldsFirst, HoldsNone, IsIdle}
use Rattle.hg_hosted.specs.Has.{Has}

-- each of these from this core on holds nothing and has nothing in hand
abbrev pub AreIdleFrom : ℕ → List HostedWorker → Type 0
AreIdleFrom first workers =
    (core : ℕ) (worker : HostedWorker) → first ≤ core → slice_get workers core ≡ Some worker
    → Has IsIdle worker

-- the worker holds none, or this is the lowest segment that it holds
abbrev pub HasFirst : Option ℕ → HostedWorker → Type 0
HasFirst first worker =
    MatchOption first (Has HoldsNone worker) (λ segment. Has (HoldsFirst segment) worker)
