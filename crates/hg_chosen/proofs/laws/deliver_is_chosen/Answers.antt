use Rattle.hg_chosen.proofs.Sending.{deliver_is_chosen as law}
use Rattle.hg_chosen.proofs.laws.deliver_is_chosen.Goals as goal

pub returns : goal.returns
returns c = law
