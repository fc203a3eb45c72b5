use Rattle.std.proofs.Common.{map, codes}
use Rattle.toml.specs.View.{view}
use Rattle.hg_show.specs.Texts.{texts_in}
use Rattle.hg_show.specs.Warnings.{deny_warnings, itself_warning, rightless_warning}
use Rattle.hg_show.proofs.TextLemmas.{joined}
use Rattle.hg_show.proofs.lines.warn_of_deny.Goals as goal

-- one after another
pub returns : goal.returns
unfolding deny_warnings
returns c =
    let policy = c.args.policy.now in
    let groups = map view c.args.groups.now in
    let place = c.args.place in
    let row = view c.args.row.now in
    let itself = itself_warning policy groups (codes "deny ") place row in
    let rightless = rightless_warning (codes "deny ") place row in
    joined (texts_in c.args.texts.now.items) itself rightless (texts_in c.warn.new.texts.items) (texts_in c.warn-2.new.texts.items)
    (rw (c.is_to_itself.ensures, c.as_slice.ensures.value, c.as_slice-2.ensures.value, c.in_ok-owners.ensures, c.in_ok-actors.ensures, c.text_at.ensures, c.text_at-2.ensures, c.as_slice-3.ensures.value, c.in_ok-name.ensures) at c.in_ok-warn.ensures)
    (rw (c.is_empty_at.ensures, c.as_slice-4.ensures.value, c.in_ok-name.ensures) at c.in_ok-warn-2.ensures)
