use Rattle.hg_lists.proofs.TotalsLemmas.{total-front}
use Rattle.hg_lists.proofs.laws.front_adds_one.Goals as goal

pub returns : goal.returns
returns c = total-front
