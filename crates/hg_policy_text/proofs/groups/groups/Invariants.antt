use Rattle.std.proofs.Common.{◌≡◌, length, map, drop}
use Rattle.toml.specs.View.{table_view}
use Rattle.hg_policy_text.specs.Faults.{in_turn}
use Rattle.hg_policy.specs.Kept.{tenants_of}
use Rattle.hg_policy_text.specs.ReadTables.{groups_of}
use Rattle.hg_policy_text.specs.Groups.{group_at, groups_in}
use Rattle.hg_policy_text.proofs.groups.groups.Given as goal

abbrev pub invariant-loop-entry : goal.invariant-loop-entry
invariant-loop-entry l = in_turn (group_at (tenants_of l.tenants.entries)) (groups_of (length l.tenants.entries) l.groups.entries) (map (λ entry. table_view entry.now) (drop l.entry-index l.entries)) ≡ groups_in (tenants_of l.tenants.entries) (map (λ entry. table_view entry.now) l.entries)
