-- The policy of the worked runs, and the states that they begin in.
use Rattle.std.specs.Prelude.{ℕ, true, false, [], ◌∷◌, None, replicate}
use Rattle.hg_machine.specs.Policy.{Policy, Rights, no_rights}
use Rattle.hg_machine.specs.SoundPolicy.{IsSoundPolicy}
use Rattle.hg_machine.specs.Life.{never_used}
use Rattle.hg_machine.specs.State.{State, fresh, opening}
use Rattle.hg_machine.specs.Soundness.{IsSound}

abbrev pub all_rights : Rights
all_rights = record { read = true; write = true; list = true; free = true }

abbrev pub read_and_free : Rights
read_and_free = record { read = true; write = false; list = false; free = true }

-- alice is tenant 0 and bob tenant 1, whom she lets read and free what is hers; arena 0, main, has
-- segments 0 and 1, and arena 1, vault, has segment 2, for alice alone
abbrev pub worked_policy : ℕ → Policy
worked_policy max_generation = record {
  workers = 2;
  max_generation = max_generation;
  tenants = record { name = []; limit = 8192 } ∷ record { name = []; limit = 64 } ∷ [];
  arenas = [] ∷ [] ∷ [];
  segments = 0 ∷ 0 ∷ 1 ∷ [];
  admitted = (true ∷ true ∷ []) ∷ (true ∷ false ∷ []) ∷ [];
  granted = (all_rights ∷ read_and_free ∷ []) ∷ (no_rights ∷ all_rights ∷ []) ∷ [];
  forbidden = [];
}

-- the opening state of a policy, with the records of the first places and the classes of the first
-- pages alone
abbrev pub shortened : Policy → ℕ → ℕ → State
shortened policy places pages = record {
  policy = policy;
  records = replicate places never_used;
  classes = replicate pages None;
  holders = fresh ∷ fresh ∷ fresh ∷ [];
  orphans = [];
  hands = None ∷ None ∷ [];
}

abbrev pub start : ℕ → ℕ → State
start places pages = shortened (worked_policy 9) places pages

-- the same, where segment 0 is the vault's
abbrev pub vault_start : State
vault_start = shortened (record (worked_policy 9) { segments = 1 ∷ 0 ∷ 0 ∷ [] }) 1 1

-- the policy is sound, and so is its whole opening state
abbrev pub WorkedPolicyIsSound : Type 0
WorkedPolicyIsSound = IsSoundPolicy (worked_policy 9) × IsSound (opening (worked_policy 9))
