-- What a bank opens with, and how it grows.
use Rattle.std.specs.Prelude.{ℕ, [], ◌∷◌, ◌++◌, slice_index_or}
use Rattle.hg_core.specs.Opening.{opened}
use Rattle.hg_machine.specs.Lists.{Kept, IsPartition}
use Rattle.hg_machine.specs.Policy.{Policy}
use Rattle.hg_machine.specs.Soundness.{IsSound}
use Rattle.hg_bank.specs.Parts.{bank_from}
use Rattle.hg_bank.specs.State.{BankState}

-- a core of the policy that opens is sound, with lists that are a partition
pub record IsOpenCore (p : Policy) : Type 0 where
  pub sound : IsSound (opened p).state
  pub lists : IsPartition (opened p)

-- one core, which is the current one of each worker in each arena
abbrev pub opened_bank : Policy → ℕ → BankState
opened_bank policy room = bank_from policy room (opened policy ∷ [])

-- one more core, the last
abbrev pub grown : BankState → BankState
grown b = record {
  policy = b.policy;
  room = b.room;
  cores = b.cores ++ opened b.policy ∷ [];
  currents = b.currents;
}

-- the core of a number; one that isn't there yet, as it will open
abbrev pub core_at : BankState → ℕ → Kept
core_at b core = slice_index_or b.cores core (opened b.policy)
