use Rattle.hg_remote.proofs.OrderLemmas.{order_all}
use Rattle.hg_remote.proofs.laws.order_has_all.Goals as goal

pub returns : goal.returns
returns c = order_all
