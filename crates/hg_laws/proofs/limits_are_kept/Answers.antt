use Rattle.hg_laws.proofs.LimitsLemmas.{limits_are_kept as law}
use Rattle.hg_laws.proofs.limits_are_kept.Goals as goal

pub returns : goal.returns
returns c = law
