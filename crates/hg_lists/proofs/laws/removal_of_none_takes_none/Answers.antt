use Rattle.hg_lists.proofs.TotalsLemmas.{total-without_nowhere}
use Rattle.hg_lists.proofs.laws.removal_of_none_takes_none.Goals as goal

pub returns : goal.returns
returns c = total-without_nowhere
