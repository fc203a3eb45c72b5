use Rattle.std.proofs.Common.{arith, below_more, rules}
use Rattle.hg_worker.proofs.kept_pool.KeptPool.first_missing.Goals as goal

pub loop-segment-preserved : goal.loop-segment-preserved
loop-segment-preserved g c =
    below_more _ _ c.loop-segment.invariant (c.has.ensures.0 (search rules))

pub returns-clause-none : goal.returns-clause-none
returns-clause-none g c =
    λ segment lt. c.loop-segment.invariant segment (omega (arith, lt, c.loop-segment-test.false))
