use Rattle.hg_show.specs.Parts.{arena_word}
use Rattle.hg_show.proofs.TextLemmas.{rows_more}
use Rattle.hg_show.proofs.parts.push_arena_words.Goals as goal

pub loop-arena-preserved : goal.loop-arena-preserved
loop-arena-preserved c =
    rows_more (arena_word c.args.policy.now c.args.tenant) c.args.arenas.now c.loop-arena.arena-index c.arena-item.result c.text_at-name.result.now c.args.out.now.items c.loop-arena.out.items c.push_told.new.out.items
    c.loop-arena-test.true c.arena-item.is c.text_at-name.ensures c.loop-arena.invariant (rw c.may_be_in.ensures at c.in_ok-push_told.ensures)
