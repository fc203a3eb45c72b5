use Rattle.std.proofs.Common.{◌++◌, map, codes}
use Rattle.toml.specs.View.{view}
use Rattle.hg_show.specs.Texts.{texts_in}
use Rattle.hg_show.specs.Warnings.{apart_warning, grant_warnings, itself_warning, rightless_warning}
use Rattle.hg_show.proofs.TextLemmas.{joined}
use Rattle.hg_show.proofs.lines.warn_of_grant.Goals as goal

-- one after another
pub returns : goal.returns
unfolding grant_warnings
returns c =
    let policy = c.args.policy.now in
    let groups = map view c.args.groups.now in
    let place = c.args.place in
    let row = view c.args.row.now in
    let apart = apart_warning policy groups place row in
    let itself = itself_warning policy groups (codes "grant ") place row in
    let rightless = rightless_warning (codes "grant ") place row in
    let old = texts_in c.args.texts.now.items in
    let mid = texts_in c.warn.new.texts.items in
    let next = texts_in c.warn-2.new.texts.items in
    joined old (apart ++ itself) rightless next (texts_in c.warn-3.new.texts.items)
    (joined old apart itself mid next
    (rw (c.is_apart.ensures, c.as_slice.ensures.value, c.as_slice-2.ensures.value, c.in_ok-owners.ensures, c.in_ok-actors.ensures, c.text_at.ensures, c.text_at-2.ensures, c.as_slice-3.ensures.value, c.in_ok-name.ensures) at c.in_ok-warn.ensures)
    (rw (c.is_to_itself.ensures, c.as_slice-4.ensures.value, c.as_slice-5.ensures.value, c.in_ok-owners.ensures, c.in_ok-actors.ensures, c.text_at.ensures, c.text_at-2.ensures, c.as_slice-6.ensures.value, c.in_ok-name.ensures) at c.in_ok-warn-2.ensures))
    (rw (c.is_empty_at.ensures, c.as_slice-7.ensures.value, c.in_ok-name.ensures) at c.in_ok-warn-3.ensures)
