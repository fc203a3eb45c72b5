-- The workers of many services, by number.
use Rattle.std.specs.Prelude.{◌≡◌, ℕ, List, Some, map, slice_get}
use Rattle.hg_machine.specs.Policy.{Policy}
use Rattle.hg_hosted.specs.declared.worker.HostedWorker.{HostedWorker}
use Rattle.hg_hosted.specs.New.{IsNewHosted}
use Rattle.hg_hosted.specs.Has.{Has}

-- the row has of each of these lists the entry of this number
abbrev pub IsDealt : List (List HostedWorker) → ℕ → List HostedWorker → Type 0
IsDealt lists number row = map Some row ≡ map (λ its. slice_get its number) lists

-- a new worker of this policy and number
pub record IsNew (policy : Policy) (number : ℕ) (worker : HostedWorker) : Type 0 where
  pub new : IsNewHosted number worker
  pub serves : Has (λ state. state.policy ≡ policy) worker

-- each of them is one
abbrev pub AreNew : Policy → ℕ → List HostedWorker → Type 0
AreNew policy number row =
    (core : ℕ) (worker : HostedWorker) → slice_get row core ≡ Some worker
    → IsNew policy number worker
