use Rattle.std.proofs.Common.{[]}
use Rattle.hg_show.specs.Texts.{texts_in}
use Rattle.hg_show.specs.Json.{arena_value}
use Rattle.hg_show.proofs.TextLemmas.{rows_more}
use Rattle.hg_show.proofs.tenant_objects.arena_values.Goals as goal

pub loop-arena-preserved : goal.loop-arena-preserved
loop-arena-preserved c =
    rows_more (arena_value c.args.policy.now c.args.tenant) c.args.arenas.now c.loop-arena.arena-index c.arena-item.result c.text_at-name.result.now [] (texts_in c.loop-arena.values.items) (texts_in c.add_quoted_where.new.values.items)
    c.loop-arena-test.true c.arena-item.is c.text_at-name.ensures c.loop-arena.invariant (rw c.may_be_in.ensures at c.in_ok-add_quoted_where.ensures)
