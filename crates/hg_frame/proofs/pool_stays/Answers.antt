use Rattle.hg_frame.proofs.PoolLemmas.{pool_stays as law}
use Rattle.hg_frame.proofs.pool_stays.Goals as goal

pub returns : goal.returns
returns c = law
