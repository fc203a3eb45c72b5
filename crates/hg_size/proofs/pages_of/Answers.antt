use Rattle.std.proofs.Common.{arith}
use Rattle.hg_size.proofs.Table.{size_bounds}
use Rattle.hg_size.proofs.pages_of.Goals as goal

pub overflow_sub-result : goal.overflow_sub-result
overflow_sub-result c = omega (arith, size_bounds c.class.inside.words c.class.invariant.0)

pub returns-clause-few : goal.returns-clause-few
returns-clause-few c = omega (arith, size_bounds c.class.inside.words c.class.invariant.0, c.class.view_is)
