use Rattle.std.proofs.Common.{◌≡◌, length, map, drop}
use Rattle.toml.specs.View.{table_view}
use Rattle.hg_policy_text.specs.Faults.{in_turn}
use Rattle.hg_policy.specs.Kept.{tenants_of}
use Rattle.hg_policy_text.specs.ReadTables.{groups_of, line_of}
use Rattle.hg_policy_text.specs.Lines.{with_line, lines_in}
use Rattle.hg_policy_text.proofs.lines.lines.Given as goal

abbrev pub invariant-loop-entry : goal.invariant-loop-entry
invariant-loop-entry l = in_turn (with_line (tenants_of l.tenants.entries) (groups_of (length l.tenants.entries) l.groups.entries)) (map (line_of (length l.tenants.entries)) l.lines.items) (map (λ entry. table_view entry.now) (drop l.entry-index l.entries)) ≡ lines_in (tenants_of l.tenants.entries) (groups_of (length l.tenants.entries) l.groups.entries) (map (λ entry. table_view entry.now) l.entries)
