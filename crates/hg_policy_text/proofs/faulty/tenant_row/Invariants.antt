use Rattle.std.proofs.Common.{map}
use Rattle.toml.specs.View.{table_view}
use Rattle.hg_policy_text.specs.Tenants.{tenants_in}
use Rattle.hg_policy_text.proofs.FirstRefused.{AreRead}
use Rattle.hg_policy_text.proofs.faulty.tenant_row.Given as goal

abbrev pub invariant-loop-number : goal.invariant-loop-number
invariant-loop-number l = AreRead tenants_in (map (λ entry. table_view entry.now) l.entries) l.number
