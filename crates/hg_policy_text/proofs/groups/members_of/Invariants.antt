use Rattle.std.proofs.Common.{◌≡◌, [], length, map, drop}
use Rattle.toml.specs.View.{view}
use Rattle.hg_policy_text.specs.Faults.{in_turn}
use Rattle.hg_policy.specs.Kept.{tenants_of}
use Rattle.hg_policy.specs.TenantSets.{just}
use Rattle.hg_policy_text.specs.Groups.{and_member}
use Rattle.hg_policy.specs.TenantSets.{flags_of}
use Rattle.hg_policy_text.proofs.groups.members_of.Given as goal

abbrev pub invariant-loop-name : goal.invariant-loop-name
invariant-loop-name l = in_turn (and_member (tenants_of l.tenants.entries)) (flags_of (length l.tenants.entries) l.members) (map view (drop l.name-index l.name-items)) ≡ in_turn (and_member (tenants_of l.tenants.entries)) (just (length (tenants_of l.tenants.entries)) []) (map view l.names.items)
