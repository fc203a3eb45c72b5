use Rattle.hg_remote.proofs.DrainLaws.{drain_determined}
use Rattle.hg_remote.proofs.laws.drain_is_determined.Goals as goal

pub returns : goal.returns
returns c = drain_determined
