-- The state of a bank of cores.
use Rattle.std.specs.Prelude.{ℕ, List, [], slice_index_or, slice_set, sum_by}
use Rattle.hg_machine.specs.Charge.{charge}
use Rattle.hg_machine.specs.Lists.{Kept}
use Rattle.hg_machine.specs.Policy.{Policy}

-- Cores go by number. The policy by which all serve, how many cores there may be, what each core is
-- seen as, and by worker and arena the number of the core that is current
pub record BankState : Type 0 where
  pub policy : Policy
  pub room : ℕ
  pub cores : List Kept
  pub currents : List (List ℕ)

-- the current core of a worker in an arena
abbrev pub current_of : List (List ℕ) → ℕ → ℕ → ℕ
current_of currents worker arena = slice_index_or (slice_index_or currents worker []) arena 0

-- a tenant's charge with a worker, over all these cores
abbrev pub charge_over : List Kept → ℕ → ℕ → ℕ
charge_over cores worker tenant = sum_by (λ core. charge core.state worker tenant) cores

-- the bank with this at a core
abbrev pub with_core : BankState → ℕ → Kept → BankState
with_core b core next = record {
  policy = b.policy;
  room = b.room;
  cores = slice_set b.cores core next;
  currents = b.currents;
}

-- the bank with this core as the current one of the worker in the arena
abbrev pub with_current : BankState → ℕ → ℕ → ℕ → BankState
with_current b worker arena core = record {
  policy = b.policy;
  room = b.room;
  cores = b.cores;
  currents = slice_set b.currents worker
      (slice_set (slice_index_or b.currents worker []) arena core);
}
