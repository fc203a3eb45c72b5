use Rattle.std.proofs.Common.{Some, not, length, sym, ap, ◌∙◌}
use Rattle.toml.specs.View.{table_view}
use Rattle.hg_policy.specs.Kept.{tenants_of}
use Rattle.hg_policy_text.specs.ReadTables.{groups_of, line_of}
use Rattle.hg_policy_text.specs.Lines.{line_in, lines_in}
use Rattle.hg_policy_text.proofs.FirstRefused.{AreRead-more, row_in-here, row_in-none}
use Rattle.hg_policy_text.proofs.RowsTold.{is_err-told}
use Rattle.hg_policy_text.proofs.AloneRefused.{is_err-lines_more}
use Rattle.hg_policy_text.proofs.faulty.line_row.Goals as goal

pub returns-then-is_none : goal.returns-then-is_none
returns-then-is_none c =
    let tenants = tenants_of c.args.tenants.now.entries in
    let groups = groups_of (length c.args.tenants.now.entries) c.args.groups.now.entries in
    let told = is_err-told (line_of (length c.args.tenants.now.entries)) (line_in tenants groups (table_view c.index-entries-number.result.now)) c.read_line.result c.in_ok-if_read.field-0 c.read_line.ensures c.in_ok-if_read.ensures in
    let here = is_err-lines_more tenants groups (λ entry. table_view entry.now) c.args.entries.now c.loop-number.number c.index-entries-number.result c.loop-number.invariant c.loop-number-test.true in
    ap Some c.row.ensures ∙ sym (row_in-here c.args.table (lines_in tenants groups) (λ entry. table_view entry.now) c.args.entries.now c.loop-number.number c.loop-number.invariant c.loop-number-test.true (here ∙ (rw c.index-entries-number.is at told) ∙ ap not c.if-is_none.ensures))

pub loop-number-preserved : goal.loop-number-preserved
loop-number-preserved c =
    let tenants = tenants_of c.args.tenants.now.entries in
    let groups = groups_of (length c.args.tenants.now.entries) c.args.groups.now.entries in
    let told = is_err-told (line_of (length c.args.tenants.now.entries)) (line_in tenants groups (table_view c.index-entries-number.result.now)) c.read_line.result c.in_ok-if_read.field-0 c.read_line.ensures c.in_ok-if_read.ensures in
    let here = is_err-lines_more tenants groups (λ entry. table_view entry.now) c.args.entries.now c.loop-number.number c.index-entries-number.result c.loop-number.invariant c.loop-number-test.true in
    AreRead-more c.args.table (lines_in tenants groups) (λ entry. table_view entry.now) c.args.entries.now c.loop-number.number c.loop-number.invariant (here ∙ (rw c.index-entries-number.is at told) ∙ ap not c.if-is_none.ensures)

pub returns : goal.returns
returns c = sym (row_in-none c.args.table (lines_in (tenants_of c.args.tenants.now.entries) (groups_of (length c.args.tenants.now.entries) c.args.groups.now.entries)) (λ entry. table_view entry.now) c.args.entries.now c.loop-number.number c.loop-number.invariant c.loop-number-test.false)
