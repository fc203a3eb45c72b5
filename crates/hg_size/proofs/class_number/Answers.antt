use Rattle.std.proofs.Common.{arith}
use Rattle.hg_size.proofs.Table.{number_below}
use Rattle.hg_size.proofs.class_number.Goals as goal

pub returns-clause-below : goal.returns-clause-below
returns-clause-below c = omega (arith, number_below c.class.inside.words c.class.invariant.0, c.class.invariant.1)
