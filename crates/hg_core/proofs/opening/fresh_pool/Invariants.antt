use Rattle.hg_core.specs.Opened.{IsFreshPool}
use Rattle.hg_core.proofs.opening.fresh_pool.Given as goal

abbrev pub invariant-loop-number : goal.invariant-loop-number
invariant-loop-number l = IsFreshPool l.policy l.number l.pool
