use Rattle.hg_pool.proofs.Placed.{have_one_place}
use Rattle.hg_pool.proofs.laws.fresh_have_one_place.Goals as goal

pub returns : goal.returns
returns g c = have_one_place g.S.SlotWords.number
