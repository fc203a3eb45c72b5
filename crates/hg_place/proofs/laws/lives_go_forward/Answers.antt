use Rattle.hg_place.proofs.LifeOrders.{forward}
use Rattle.hg_place.proofs.laws.lives_go_forward.Goals as goal

pub returns : goal.returns
returns c = forward
