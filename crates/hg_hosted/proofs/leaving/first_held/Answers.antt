use Rattle.std.proofs.Common.{arith, below_more, rules}
use Rattle.hg_hosted.proofs.leaving.first_held.Goals as goal

pub loop-segment-preserved : goal.loop-segment-preserved
loop-segment-preserved c = below_more _ _ c.loop-segment.invariant (search rules)

pub returns-then-holds : goal.returns-then-holds
returns-then-holds c = record {
  below = omega (arith, c.loop-segment-test.true);
  held = search rules;
  lower = c.loop-segment.invariant;
}

pub returns : goal.returns
returns c = λ segment lt.
    c.loop-segment.invariant segment (omega (arith, lt, c.loop-segment-test.false))
