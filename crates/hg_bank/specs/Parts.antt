-- What a bank is taken apart to, and made of.
use Rattle.std.specs.Prelude.{ℕ, ◌≤◌, List, length, replicate, All}
use Rattle.hg_machine.specs.Lists.{Kept}
use Rattle.hg_machine.specs.Policy.{Policy}
use Rattle.hg_bank.specs.declared.bank.TheConstants.{ARENAS, MAX_CORES}
use Rattle.hg_bank.specs.Sound.{IsCoreOf}
use Rattle.hg_bank.specs.State.{BankState}

-- one core or more, no more than there may be, and each is one of the policy
pub record AreParts (policy : Policy) (room : ℕ) (cores : List Kept) : Type 0 where
  pub some : 1 ≤ length cores
  pub within : length cores ≤ room
  pub most : room ≤ MAX_CORES
  pub each : All (IsCoreOf policy) cores

-- the bank of these cores, of which the first is the current one of each worker in each arena
abbrev pub bank_from : Policy → ℕ → List Kept → BankState
bank_from policy room cores = record {
  policy = policy;
  room = room;
  cores = cores;
  currents = replicate policy.workers (replicate ARENAS 0);
}
