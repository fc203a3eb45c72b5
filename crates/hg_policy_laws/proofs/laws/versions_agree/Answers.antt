use Rattle.hg_policy_laws.proofs.Versions.{versions_agree as law}
use Rattle.hg_policy_laws.proofs.laws.versions_agree.Goals as goal

pub returns : goal.returns
returns c = law
