use Rattle.hg_bank.proofs.LawLemmas.{steps_keep_policy as law}
use Rattle.hg_bank.proofs.laws.steps_keep_policy.Goals as goal

pub returns : goal.returns
returns c = law
