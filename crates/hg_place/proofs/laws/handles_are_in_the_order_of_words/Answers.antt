use Rattle.hg_place.proofs.WordOrders.{in_order}
use Rattle.hg_place.proofs.laws.handles_are_in_the_order_of_words.Goals as goal

pub returns : goal.returns
returns c = in_order
