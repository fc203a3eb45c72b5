use Rattle.hg_policy_text.proofs.Parts.{tables_are_whole as law}
use Rattle.hg_policy_laws.proofs.laws.tables_are_whole.Goals as goal

pub returns : goal.returns
returns c = law
