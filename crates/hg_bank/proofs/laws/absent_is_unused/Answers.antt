use Rattle.hg_bank.proofs.AbsentLemmas.{absent_is_unused as law}
use Rattle.hg_bank.proofs.laws.absent_is_unused.Goals as goal

pub returns : goal.returns
returns c = law
