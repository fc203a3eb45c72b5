use Rattle.hg_place.proofs.LifeOrders.{ordered}
use Rattle.hg_place.proofs.laws.lives_are_ordered.Goals as goal

pub returns : goal.returns
returns c = ordered
