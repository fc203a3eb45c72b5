use Rattle.hg_policy_laws.proofs.Versions.{versions_are_two as law}
use Rattle.hg_policy_laws.proofs.laws.versions_are_two.Goals as goal

pub returns : goal.returns
returns c = law
