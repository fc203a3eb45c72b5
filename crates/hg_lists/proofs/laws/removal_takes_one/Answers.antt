use Rattle.hg_lists.proofs.TotalsLemmas.{total-without}
use Rattle.hg_lists.proofs.laws.removal_takes_one.Goals as goal

pub returns : goal.returns
returns c = total-without
