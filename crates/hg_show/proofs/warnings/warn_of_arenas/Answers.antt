use Rattle.hg_show.specs.Texts.{texts_in}
use Rattle.hg_show.specs.Warnings.{arena_warnings}
use Rattle.hg_show.proofs.TextLemmas.{rows_more}
use Rattle.hg_show.proofs.warnings.warn_of_arenas.Goals as goal

pub loop-arena-preserved : goal.loop-arena-preserved
loop-arena-preserved c =
    rows_more (arena_warnings c.args.policy.now) c.args.arenas.now c.loop-arena.arena-index c.arena-item.result c.text_at.result.now (texts_in c.args.texts.now.items) (texts_in c.loop-arena.texts.items) (texts_in c.warn_of_arena.new.texts.items)
    c.loop-arena-test.true c.arena-item.is c.text_at.ensures c.loop-arena.invariant c.in_ok-warn_of_arena.ensures
