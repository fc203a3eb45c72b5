use Rattle.hg_events.proofs.PartedInPool.{free_is_parted_in_pool as law}
use Rattle.hg_events.proofs.laws.free_is_parted_in_pool.Goals as goal

pub returns : goal.returns
returns c = law
