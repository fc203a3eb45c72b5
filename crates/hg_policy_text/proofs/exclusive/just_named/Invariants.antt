use Rattle.std.proofs.Common.{◌≡◌, [], length, map, drop}
use Rattle.toml.specs.View.{view}
use Rattle.hg_policy_text.specs.Faults.{in_turn}
use Rattle.hg_policy.specs.Kept.{tenants_of}
use Rattle.hg_policy_text.specs.ReadTables.{groups_of}
use Rattle.hg_policy_text.specs.Arenas.{with_named}
use Rattle.hg_policy.specs.TenantSets.{just, flags_of}
use Rattle.hg_policy_text.proofs.exclusive.just_named.Given as goal

abbrev pub invariant-loop-name : goal.invariant-loop-name
invariant-loop-name l = in_turn (with_named (tenants_of l.tenants.entries) (groups_of (length l.tenants.entries) l.groups.entries)) (flags_of (length l.tenants.entries) l.admitted) (map view (drop l.name-index l.name-items)) ≡ in_turn (with_named (tenants_of l.tenants.entries) (groups_of (length l.tenants.entries) l.groups.entries)) (just (length (tenants_of l.tenants.entries)) []) (map view l.names.items)
