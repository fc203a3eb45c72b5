use Rattle.std.proofs.Common.{◌≡◌, Option, sym, subst, IfOk}
use Rattle.hg_policy_text.specs.declared.row.Row.{Row}
use Rattle.hg_policy_text.specs.declared.key.Key.TheVariants as key
use Rattle.hg_policy.specs.Kept.{tenants_of}
use Rattle.hg_policy_text.specs.ReadTables.{heads_of}
use Rattle.hg_policy_text.specs.Tenants.{tenants_in}
use Rattle.hg_policy_text.specs.FaultyRow.{row_behind_tenants}
use Rattle.hg_policy_text.proofs.Parts.{few_entries}
use Rattle.hg_policy_text.proofs.RowsTold.{read-told, row_from-told, row_from-refused}
use Rattle.hg_policy_text.proofs.faulty.row_of_tables.Goals as goal

pub row_behind_tenants-requires-clause-few : goal.row_behind_tenants-requires-clause-few
row_behind_tenants-requires-clause-few c =
    let heads = heads_of c.args.heads.now in
    few_entries heads c.in-Some.tenants.entries c.requires
    (read-told (λ tenants. tenants_of tenants.entries) (tenants_in heads.tenants) c.tenants.result c.in-Some.tenants (rw c.as_slice-entries.ensures.value at c.tenants.ensures) (rw c.in-Some.is at c.in_ok-tenants.ensures))

pub returns-in-Some : goal.returns-in-Some
returns-in-Some c =
    let heads = heads_of c.args.heads.now in
    subst (λ (row : Option Row). IfOk c.row_behind_tenants.result (λ told. told ≡ row))
    (sym (row_from-told key.Tenant tenants_in (λ tenants. tenants_of tenants.entries) (λ tenants. row_behind_tenants tenants heads) heads.tenants c.tenants.result c.in-Some.tenants (rw c.as_slice-entries.ensures.value at c.tenants.ensures) (rw c.in-Some.is at c.in_ok-tenants.ensures)))
    c.row_behind_tenants.ensures

pub returns-in-None : goal.returns-in-None
returns-in-None c =
    let heads = heads_of c.args.heads.now in
    subst (λ (row : Option Row). IfOk c.tenant_row.result (λ told. told ≡ row))
    (sym (row_from-refused key.Tenant tenants_in (λ tenants. tenants_of tenants.entries) (λ tenants. row_behind_tenants tenants heads) heads.tenants c.tenants.result (rw c.as_slice-entries.ensures.value at c.tenants.ensures) (rw c.in-None.is at c.in_ok-tenants.ensures)))
    (rw c.as_slice-entries.ensures.value at c.tenant_row.ensures)
