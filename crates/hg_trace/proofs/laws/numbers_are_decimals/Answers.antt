use Rattle.hg_trace.proofs.Decimals.{numbers_are_decimals as law}
use Rattle.hg_trace.proofs.laws.numbers_are_decimals.Goals as goal

pub returns : goal.returns
returns c = law
