use Rattle.hg_remote.proofs.DrainLaws.{last_drained}
use Rattle.hg_remote.proofs.laws.last_sent_is_drained.Goals as goal

pub returns : goal.returns
returns c = last_drained
