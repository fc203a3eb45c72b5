use Rattle.hg_policy_laws.proofs.FaultyRows.{faulty_rows_are_rows as law}
use Rattle.hg_policy_laws.proofs.laws.faulty_rows_are_rows.Goals as goal

pub returns : goal.returns
returns c = law
