use Rattle.hg_policy_laws.proofs.FaultyRows.{policies_have_no_faulty_row as law}
use Rattle.hg_policy_laws.proofs.laws.policies_have_no_faulty_row.Goals as goal

pub returns : goal.returns
returns c = law
