use Rattle.hg_remote.proofs.OrderLemmas.{drain_head}
use Rattle.hg_remote.proofs.laws.drain_gives_head.Goals as goal

pub returns : goal.returns
returns c = drain_head
