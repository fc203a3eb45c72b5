use Rattle.std.proofs.Common.{◌≡◌, map, drop}
use Rattle.toml.specs.View.{table_view}
use Rattle.hg_policy_text.specs.Faults.{in_turn}
use Rattle.hg_policy.specs.Kept.{tenants_of}
use Rattle.hg_policy_text.specs.Tenants.{tenant_at, tenants_in}
use Rattle.hg_policy_text.proofs.tenants.tenants.Given as goal

abbrev pub invariant-loop-entry : goal.invariant-loop-entry
invariant-loop-entry l = in_turn tenant_at (tenants_of l.tenants.entries) (map (λ entry. table_view entry.now) (drop l.entry-index l.entries)) ≡ tenants_in (map (λ entry. table_view entry.now) l.entries)
