use Rattle.hg_show.specs.Parts.{arena_line}
use Rattle.hg_show.proofs.TextLemmas.{rows_more}
use Rattle.hg_show.proofs.parts.push_arena_lines.Goals as goal

pub loop-arena-preserved : goal.loop-arena-preserved
loop-arena-preserved c =
    rows_more (arena_line c.args.policy.now) c.args.arenas.now c.loop-arena.arena-index c.arena-item.result c.text_at.result.now c.args.out.now.items c.loop-arena.out.items c.push_arena.new.out.items
    c.loop-arena-test.true c.arena-item.is c.text_at.ensures c.loop-arena.invariant c.in_ok-push_arena.ensures
