use Rattle.hg_policy_laws.proofs.Versions.{version_two_is_version_one as law}
use Rattle.hg_policy_laws.proofs.laws.version_two_is_version_one.Goals as goal

pub returns : goal.returns
returns c = law
