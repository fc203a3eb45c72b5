use Rattle.std.proofs.Common.{◌≡◌, ◌≤◌, length, map, drop}
use Rattle.toml.specs.View.{table_view}
use Rattle.hg_policy_text.specs.Faults.{in_turn}
use Rattle.hg_policy.specs.Kept.{tenants_of}
use Rattle.hg_policy_text.specs.ReadTables.{groups_of, arenas_of}
use Rattle.hg_policy_text.specs.Arenas.{arena_at, arenas_in}
use Rattle.hg_policy_text.proofs.arenas.arenas.Given as goal

abbrev pub invariant-loop-entry : goal.invariant-loop-entry
invariant-loop-entry l = record {
  so_far : in_turn (arena_at (tenants_of l.tenants.entries) (groups_of (length l.tenants.entries) l.groups.entries)) (arenas_of (length l.tenants.entries) l.arenas) (map (λ entry. table_view entry.now) (drop l.entry-index l.entries)) ≡ arenas_in (tenants_of l.tenants.entries) (groups_of (length l.tenants.entries) l.groups.entries) (map (λ entry. table_view entry.now) l.entries);
  few : length l.arenas.named.entries ≤ l.entry-index;
}
