use Rattle.hg_core.proofs.Opened.{next_new, next_put}
use Rattle.hg_core.proofs.opening.fresh_pool.Goals as goal

pub put_fresh-requires : goal.put_fresh-requires
put_fresh-requires c =
    next_new c.args.policy.now c.loop-number.number _ c.loop-number.pool c.loop-number.invariant
    c.in_ok-fresh_segment.ensures.number

pub loop-number-preserved : goal.loop-number-preserved
loop-number-preserved c =
    next_put c.args.policy.now c.loop-number.number c.loop-number.pool c.put_fresh.new.self
    c.in_ok-fresh_segment.field-0 c.loop-number.invariant c.in_ok-fresh_segment.ensures.number
    c.in_ok-fresh_segment.ensures.unused c.put_fresh.ensures.fresh c.put_fresh.ensures.orphans
    c.put_fresh.ensures.right
