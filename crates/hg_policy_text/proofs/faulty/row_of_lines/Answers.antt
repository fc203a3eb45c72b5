use Rattle.std.proofs.Common.{◌≡◌, Option, length, sym, subst, IfOk, ◌∙◌}
use Rattle.hg_policy_text.specs.declared.row.Row.{Row}
use Rattle.hg_policy_text.specs.declared.key.Key.TheVariants as key
use Rattle.hg_policy.specs.Kept.{tenants_of}
use Rattle.hg_policy_text.specs.ReadTables.{groups_of, heads_of}
use Rattle.hg_policy_text.specs.Lines.{lines_in}
use Rattle.hg_policy_text.specs.FaultyRow.{row_in}
use Rattle.hg_policy_text.proofs.AloneRefused.{row_from-refused_lines, row_from-read_lines}
use Rattle.hg_policy_text.proofs.faulty.row_of_lines.Goals as goal

pub returns-in-Some : goal.returns-in-Some
returns-in-Some c =
    let heads = heads_of c.args.heads.now in
    let tenants = tenants_of c.args.tenants.now.entries in
    let groups = groups_of (length c.args.tenants.now.entries) c.args.groups.now.entries in
    sym (row_from-refused_lines tenants groups key.Grant heads.grants (row_in key.Deny (lines_in tenants groups) heads.denies) c.in-Some.row (sym (sym c.in-Some.is ∙ (rw c.as_slice.ensures.value at c.in_ok-row.ensures))))

pub returns-in-None : goal.returns-in-None
returns-in-None c =
    let heads = heads_of c.args.heads.now in
    let tenants = tenants_of c.args.tenants.now.entries in
    let groups = groups_of (length c.args.tenants.now.entries) c.args.groups.now.entries in
    subst (λ (row : Option Row). IfOk c.line_row-in-None.result (λ told. told ≡ row))
    (sym (row_from-read_lines tenants groups key.Grant heads.grants (row_in key.Deny (lines_in tenants groups) heads.denies) (sym (sym c.in-None.is ∙ (rw c.as_slice.ensures.value at c.in_ok-row.ensures)))))
    (rw c.as_slice-in-None.ensures.value at c.line_row-in-None.ensures)
