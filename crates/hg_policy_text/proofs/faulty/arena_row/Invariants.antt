use Rattle.std.proofs.Common.{map, length}
use Rattle.toml.specs.View.{table_view}
use Rattle.hg_policy_text.specs.Arenas.{arenas_in}
use Rattle.hg_policy.specs.Kept.{tenants_of}
use Rattle.hg_policy_text.specs.ReadTables.{groups_of}
use Rattle.hg_policy_text.proofs.FirstRefused.{AreRead}
use Rattle.hg_policy_text.proofs.faulty.arena_row.Given as goal

abbrev pub invariant-loop-number : goal.invariant-loop-number
invariant-loop-number l = AreRead (arenas_in (tenants_of l.tenants.entries) (groups_of (length l.tenants.entries) l.groups.entries)) (map (λ entry. table_view entry.now) l.entries) l.number
