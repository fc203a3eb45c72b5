use Rattle.hg_policy_text.proofs.Parts.{names_are_distinct as law}
use Rattle.hg_policy_laws.proofs.laws.names_are_distinct.Goals as goal

pub returns : goal.returns
returns c = law
