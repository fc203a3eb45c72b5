-- What names mean under a policy, each at its number.
use Rattle.std.specs.Prelude.{ℕ, List, map}
use Rattle.hg_machine.specs.Policy.{Policy}
use Rattle.hg_policy.specs.Names.{tenant_number, arena_number}
use Rattle.hg_replay.specs.declared.replaying.known.Meant.{Meant}
use Rattle.hg_replay.specs.Events.{or_nobody}

-- the numbers that a policy gives a name
abbrev pub meant_of : Policy → List ℕ → Meant
meant_of policy name = record {
  tenant = or_nobody (tenant_number policy name);
  arena = or_nobody (arena_number policy name);
}

-- and those that it gives each of these
abbrev pub meanings : Policy → List (List ℕ) → List Meant
meanings policy names = map (meant_of policy) names
