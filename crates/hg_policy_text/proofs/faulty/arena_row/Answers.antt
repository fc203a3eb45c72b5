use Rattle.std.proofs.Common.{◌+◌, Some, not, length, map, take, sym, ap, ◌∙◌}
use Rattle.toml.specs.View.{table_view}
use Rattle.hg_policy_text.specs.declared.key.Key.TheVariants as key
use Rattle.hg_policy.specs.Kept.{tenants_of}
use Rattle.hg_policy_text.specs.ReadTables.{groups_of, arenas_of}
use Rattle.hg_policy_text.specs.Arenas.{arenas_in}
use Rattle.hg_policy_text.proofs.FirstRefused.{AreRead-more, row_in-here, row_in-none}
use Rattle.hg_policy_text.proofs.RowsTold.{is_err-told}
use Rattle.hg_policy_text.proofs.faulty.arena_row.Goals as goal

pub returns-then-is_none : goal.returns-then-is_none
returns-then-is_none c =
    let told = is_err-told (arenas_of (length c.args.tenants.now.entries)) ((arenas_in (tenants_of c.args.tenants.now.entries) (groups_of (length c.args.tenants.now.entries) c.args.groups.now.entries)) (map (λ entry. table_view entry.now) (take (c.loop-number.number + 1) c.args.entries.now))) c.arenas.result c.in_ok-if_read.field-0 c.arenas.ensures c.in_ok-if_read.ensures in
    ap Some c.row.ensures ∙ sym (row_in-here key.Arena (arenas_in (tenants_of c.args.tenants.now.entries) (groups_of (length c.args.tenants.now.entries) c.args.groups.now.entries)) (λ entry. table_view entry.now) c.args.entries.now c.loop-number.number c.loop-number.invariant c.loop-number-test.true (told ∙ ap not c.if-is_none.ensures))

pub loop-number-preserved : goal.loop-number-preserved
loop-number-preserved c =
    let told = is_err-told (arenas_of (length c.args.tenants.now.entries)) ((arenas_in (tenants_of c.args.tenants.now.entries) (groups_of (length c.args.tenants.now.entries) c.args.groups.now.entries)) (map (λ entry. table_view entry.now) (take (c.loop-number.number + 1) c.args.entries.now))) c.arenas.result c.in_ok-if_read.field-0 c.arenas.ensures c.in_ok-if_read.ensures in
    AreRead-more key.Arena (arenas_in (tenants_of c.args.tenants.now.entries) (groups_of (length c.args.tenants.now.entries) c.args.groups.now.entries)) (λ entry. table_view entry.now) c.args.entries.now c.loop-number.number c.loop-number.invariant (told ∙ ap not c.if-is_none.ensures)

pub returns : goal.returns
returns c = sym (row_in-none key.Arena (arenas_in (tenants_of c.args.tenants.now.entries) (groups_of (length c.args.tenants.now.entries) c.args.groups.now.entries)) (λ entry. table_view entry.now) c.args.entries.now c.loop-number.number c.loop-number.invariant c.loop-number-test.false)
