use Rattle.std.proofs.Common.{map}
use Rattle.toml.specs.View.{view}
use Rattle.hg_show.specs.Texts.{texts_in}
use Rattle.hg_show.specs.Warnings.{group_warnings, memberless_warning, unnamed_warning}
use Rattle.hg_show.proofs.TextLemmas.{joined}
use Rattle.hg_show.proofs.groups.warn_of_group.Goals as goal

-- both one after another
pub returns : goal.returns
unfolding group_warnings
returns c =
    let grants = map view c.args.grants.now in
    let denies = map view c.args.denies.now in
    let group = view c.args.group.now in
    joined (texts_in c.args.texts.now.items) (memberless_warning group) (unnamed_warning grants denies group) (texts_in c.warn.new.texts.items) (texts_in c.warn-2.new.texts.items)
    (rw (c.is_empty_at-is_empty.ensures, c.as_bytes-name.ensures.value, c.text_at-text.ensures) at c.in_ok-warn.ensures)
    (rw (c.is_unnamed-unnamed.ensures, c.as_bytes-name.ensures.value, c.text_at-text.ensures) at c.in_ok-warn-2.ensures)
