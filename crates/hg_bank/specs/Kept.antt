-- What the fields of a bank stand for, and what holds of them.
use Rattle.std.specs.Prelude.{◌≡◌, ℕ, ◌<◌, List, [], length, slice_index_or, vec_capacity}
use Rattle.hg_machine.specs.Lists.{Kept}
use Rattle.hg_machine.specs.Policy.{Policy}
use Rattle.hg_bank.specs.declared.bank.Bank.TheInside.{Inside}
use Rattle.hg_bank.specs.Sound.{IsSoundBank}
use Rattle.hg_bank.specs.State.{BankState, charge_over}

abbrev pub bank_of : Inside → BankState
bank_of a = record {
  policy = a.policy;
  room = a.room;
  cores = a.cores.items;
  currents = a.currents.items;
}

-- by worker and tenant of the policy, what counts over all cores
pub record AreSums (policy : Policy) (rows : List (List ℕ)) (cores : List Kept) : Type 0 where
  pub workers : length rows ≡ policy.workers
  pub each :
      (worker tenant : ℕ) → worker < policy.workers → tenant < length policy.tenants
      → slice_index_or (slice_index_or rows worker []) tenant 0 ≡ charge_over cores worker tenant

-- the bank is sound, there is room for all cores in their list, and the sums are theirs
pub record IsKept (a : Inside) : Type 0 where
  pub sound : IsSoundBank (bank_of a)
  pub room : vec_capacity a.cores ≡ a.room
  pub rows : length a.currents.items ≡ a.policy.workers
  pub sums : AreSums a.policy a.sums.items a.cores.items
