use Rattle.std.proofs.Common.{map, refl, arith}
use Rattle.std.proofs.lemmas.Result.{err_from_is_err_and}
use Rattle.toml.specs.View.{table_view}
use Rattle.hg_policy_text.specs.Faults.{fault_of}
use Rattle.hg_policy.specs.Kept.{tenants_of}
use Rattle.hg_policy_text.specs.Tenants.{tenant_at, tenants_in}
use Rattle.hg_policy_text.proofs.InTurn.{in_turn-more, in_turn-stop, in_turn-end}
use Rattle.hg_policy_text.proofs.tenants.tenants.Goals as goal

pub loop-entry-init : goal.loop-entry-init
unfolding tenants_in
loop-entry-init c = rw c.in_ok-tenants.ensures.empty refl

pub returns-in_err-tenant : goal.returns-in_err-tenant
returns-in_err-tenant c =
    let p = err_from_is_err_and c.from_residual-in_err-tenant.result c.from_residual-in_err-tenant.ensures.1 in
    rw (p.1, p.2) (in_turn-stop tenant_at (λ entry. table_view entry.now) (tenants_of c.loop-entry.tenants.entries) c.args.entries.now c.loop-entry.entry-index (tenants_in (map (λ entry. table_view entry.now) c.args.entries.now)) c.loop-entry.invariant c.entry-item.result (omega arith)
    (fault_of c.in_err-tenant.field-0.0) (rw c.entry-item.is at c.in_err-tenant.ensures))

pub loop-entry-preserved : goal.loop-entry-preserved
loop-entry-preserved c =
    in_turn-more tenant_at (λ entry. table_view entry.now) (tenants_of c.loop-entry.tenants.entries) c.args.entries.now c.loop-entry.entry-index (tenants_in (map (λ entry. table_view entry.now) c.args.entries.now)) c.loop-entry.invariant c.entry-item.result (omega arith)
    (tenants_of c.tenant.new.tenants.entries) (rw c.entry-item.is at c.in_ok-tenant.ensures)

pub returns : goal.returns
returns c = in_turn-end tenant_at (λ entry. table_view entry.now) (tenants_of c.loop-entry.tenants.entries) c.args.entries.now c.loop-entry.entry-index (tenants_in (map (λ entry. table_view entry.now) c.args.entries.now)) c.loop-entry.invariant (omega arith)
