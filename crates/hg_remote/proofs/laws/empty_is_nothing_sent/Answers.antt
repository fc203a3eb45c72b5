use Rattle.hg_remote.proofs.OrderLemmas.{empty_sent}
use Rattle.hg_remote.proofs.laws.empty_is_nothing_sent.Goals as goal

pub returns : goal.returns
returns c = empty_sent
