use Rattle.hg_events.proofs.PoolSpots.{pool_word_is_word_at as law}
use Rattle.hg_events.proofs.laws.pool_word_is_word_at.Goals as goal

pub returns : goal.returns
returns c = law
