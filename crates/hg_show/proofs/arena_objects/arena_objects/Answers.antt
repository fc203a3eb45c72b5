use Rattle.std.proofs.Common.{[]}
use Rattle.hg_show.specs.Texts.{texts_in}
use Rattle.hg_show.specs.Json.{arena_object}
use Rattle.hg_show.proofs.TextLemmas.{row_each_more}
use Rattle.hg_show.proofs.arena_objects.arena_objects.Goals as goal

pub loop-arena-preserved : goal.loop-arena-preserved
loop-arena-preserved c =
    row_each_more (arena_object c.args.policy.now) c.args.arenas.now c.loop-arena.arena-index c.arena-item.result c.text_at.result.now [] (texts_in c.loop-arena.texts.items) (texts_in c.add.new.texts.items)
    c.loop-arena-test.true c.arena-item.is c.text_at.ensures c.loop-arena.invariant (rw c.in_ok-arena_object.ensures at c.in_ok-add.ensures)
