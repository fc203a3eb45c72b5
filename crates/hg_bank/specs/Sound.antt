-- What holds of every bank.
use Rattle.std.specs.Prelude.{◌≡◌, ℕ, ◌<◌, ◌≤◌, length, All}
use Rattle.hg_machine.specs.Lists.{Kept, IsPartition}
use Rattle.hg_machine.specs.Policy.{Policy}
use Rattle.hg_machine.specs.Soundness.{IsSound}
use Rattle.hg_bank.specs.declared.bank.TheConstants.{MAX_CORES}
use Rattle.hg_bank.specs.State.{BankState, current_of}

-- a core of the policy, sound, with lists that are a partition
pub record IsCoreOf (p : Policy) (k : Kept) : Type 0 where
  pub policy : k.state.policy ≡ p
  pub sound : IsSound k.state
  pub lists : IsPartition k

-- there is a core and room for all, each core is one of the policy, and a current core is there
pub record IsSoundBank (b : BankState) : Type 0 where
  pub some : 1 ≤ length b.cores
  pub within : length b.cores ≤ b.room
  pub most : b.room ≤ MAX_CORES
  pub cores : All (IsCoreOf b.policy) b.cores
  pub currents : (worker arena : ℕ) → current_of b.currents worker arena < length b.cores
