use Rattle.hg_chosen.proofs.Entering.{refill_is_chosen as law}
use Rattle.hg_chosen.proofs.laws.refill_is_chosen.Goals as goal

pub returns : goal.returns
returns c = law
