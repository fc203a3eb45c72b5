use Rattle.std.proofs.Common.{◌≡◌, map}
use Rattle.hg_policy.specs.Kept.{granted_of, forbidden_of}
use Rattle.hg_policy_text.specs.ReadTables.{line_of}
use Rattle.hg_policy.specs.Rights.{all_rights}
use Rattle.hg_machine.specs.Policy.{no_rights}
use Rattle.hg_policy_text.proofs.LineTable.{rows_by}
use Rattle.hg_policy_text.proofs.lines.table.Given as goal

abbrev pub invariant-loop-owner : goal.invariant-loop-owner
invariant-loop-owner l = record {
  granted : granted_of l.tenants l.table.items ≡ rows_by all_rights (map (line_of l.tenants) l.grants) l.tenants l.owner;
  forbidden : forbidden_of l.tenants l.table.items ≡ rows_by no_rights (map (line_of l.tenants) l.denies) l.tenants l.owner;
}
