use Rattle.std.proofs.Common.{◌≡◌, Option, length, sym, subst, IfOk}
use Rattle.hg_policy_text.specs.declared.row.Row.{Row}
use Rattle.hg_policy_text.specs.declared.key.Key.TheVariants as key
use Rattle.hg_policy.specs.Kept.{tenants_of}
use Rattle.hg_policy_text.specs.ReadTables.{groups_of, heads_of}
use Rattle.hg_policy_text.specs.Groups.{groups_in}
use Rattle.hg_policy_text.specs.FaultyRow.{row_behind_groups}
use Rattle.hg_policy_text.proofs.RowsTold.{row_from-told, row_from-refused}
use Rattle.hg_policy_text.proofs.faulty.row_behind_tenants.Goals as goal

pub returns-in-Some : goal.returns-in-Some
returns-in-Some c =
    let heads = heads_of c.args.heads.now in
    let tenants = tenants_of c.args.tenants.now.entries in
    subst (λ (row : Option Row). IfOk c.row_behind_groups.result (λ told. told ≡ row))
    (sym (row_from-told key.Group (groups_in tenants) (λ groups. groups_of (length c.args.tenants.now.entries) groups.entries) (λ groups. row_behind_groups tenants groups heads) heads.groups c.groups.result c.in-Some.groups (rw c.as_slice-entries.ensures.value at c.groups.ensures) (rw c.in-Some.is at c.in_ok-groups.ensures)))
    c.row_behind_groups.ensures

pub returns-in-None : goal.returns-in-None
returns-in-None c =
    let heads = heads_of c.args.heads.now in
    let tenants = tenants_of c.args.tenants.now.entries in
    subst (λ (row : Option Row). IfOk c.group_row.result (λ told. told ≡ row))
    (sym (row_from-refused key.Group (groups_in tenants) (λ groups. groups_of (length c.args.tenants.now.entries) groups.entries) (λ groups. row_behind_groups tenants groups heads) heads.groups c.groups.result (rw c.as_slice-entries.ensures.value at c.groups.ensures) (rw c.in-None.is at c.in_ok-groups.ensures)))
    (rw c.as_slice-entries.ensures.value at c.group_row.ensures)
