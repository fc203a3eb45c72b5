use Rattle.hg_bank.proofs.OneLemmas.{one_core_is_a_core as law}
use Rattle.hg_bank.proofs.laws.one_core_is_a_core.Goals as goal

pub returns : goal.returns
returns c = law
