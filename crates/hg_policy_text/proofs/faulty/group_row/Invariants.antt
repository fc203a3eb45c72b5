use Rattle.std.proofs.Common.{map}
use Rattle.toml.specs.View.{table_view}
use Rattle.hg_policy_text.specs.Groups.{groups_in}
use Rattle.hg_policy.specs.Kept.{tenants_of}
use Rattle.hg_policy_text.proofs.FirstRefused.{AreRead}
use Rattle.hg_policy_text.proofs.faulty.group_row.Given as goal

abbrev pub invariant-loop-number : goal.invariant-loop-number
invariant-loop-number l = AreRead (groups_in (tenants_of l.tenants.entries)) (map (λ entry. table_view entry.now) l.entries) l.number
