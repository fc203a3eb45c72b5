use Rattle.hg_show.specs.Texts.{texts_in}
use Rattle.hg_show.specs.Warnings.{arena_warnings, closed_warning, empty_warning}
use Rattle.hg_show.proofs.TextLemmas.{joined}
use Rattle.hg_show.proofs.warnings.warn_of_arena.Goals as goal

-- both one after another
pub returns : goal.returns
unfolding arena_warnings
returns c =
    let policy = c.args.policy.now in
    let arena = c.args.arena.now in
    joined (texts_in c.args.texts.now.items) (empty_warning policy arena) (closed_warning policy arena) (texts_in c.warn.new.texts.items) (texts_in c.warn-2.new.texts.items)
    (rw (c.segments_at-is_empty.ensures, c.as_bytes-name.ensures.value) at c.in_ok-warn.ensures)
    (rw (c.admits_some-is_closed.ensures, c.as_bytes-name.ensures.value) at c.in_ok-warn-2.ensures)
