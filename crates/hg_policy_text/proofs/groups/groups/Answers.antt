use Rattle.std.proofs.Common.{length, map, refl, arith}
use Rattle.std.proofs.lemmas.Result.{err_from_is_err_and}
use Rattle.toml.specs.View.{table_view}
use Rattle.hg_policy_text.specs.Faults.{fault_of}
use Rattle.hg_policy.specs.Kept.{tenants_of}
use Rattle.hg_policy_text.specs.ReadTables.{groups_of}
use Rattle.hg_policy_text.specs.Groups.{group_at, groups_in}
use Rattle.hg_policy_text.proofs.InTurn.{in_turn-more, in_turn-stop, in_turn-end}
use Rattle.hg_policy_text.proofs.groups.groups.Goals as goal

pub loop-entry-init : goal.loop-entry-init
unfolding groups_in
loop-entry-init c = rw c.in_ok-groups.ensures.empty refl

pub returns-in_err-group : goal.returns-in_err-group
returns-in_err-group c =
    let p = err_from_is_err_and c.from_residual-in_err-group.result c.from_residual-in_err-group.ensures.1 in
    let n = length c.args.tenants.now.entries in
    let tenants = tenants_of c.args.tenants.now.entries in
    rw (p.1, p.2) (in_turn-stop (group_at tenants) (λ entry. table_view entry.now) (groups_of n c.loop-entry.groups.entries) c.args.entries.now c.loop-entry.entry-index (groups_in tenants (map (λ entry. table_view entry.now) c.args.entries.now)) c.loop-entry.invariant c.entry-item.result (omega arith)
    (fault_of c.in_err-group.field-0.0) (rw c.entry-item.is at c.in_err-group.ensures))

pub loop-entry-preserved : goal.loop-entry-preserved
loop-entry-preserved c =
    let n = length c.args.tenants.now.entries in
    let tenants = tenants_of c.args.tenants.now.entries in
    in_turn-more (group_at tenants) (λ entry. table_view entry.now) (groups_of n c.loop-entry.groups.entries) c.args.entries.now c.loop-entry.entry-index (groups_in tenants (map (λ entry. table_view entry.now) c.args.entries.now)) c.loop-entry.invariant c.entry-item.result (omega arith)
    (groups_of n c.group.new.groups.entries) (rw c.entry-item.is at c.in_ok-group.ensures)

pub returns : goal.returns
returns c =
    let n = length c.args.tenants.now.entries in
    let tenants = tenants_of c.args.tenants.now.entries in
    in_turn-end (group_at tenants) (λ entry. table_view entry.now) (groups_of n c.loop-entry.groups.entries) c.args.entries.now c.loop-entry.entry-index (groups_in tenants (map (λ entry. table_view entry.now) c.args.entries.now)) c.loop-entry.invariant (omega arith)
