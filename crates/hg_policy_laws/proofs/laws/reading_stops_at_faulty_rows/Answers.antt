use Rattle.hg_policy_laws.proofs.StoppedRows.{reading_stops_at_faulty_rows as law}
use Rattle.hg_policy_laws.proofs.laws.reading_stops_at_faulty_rows.Goals as goal

pub returns : goal.returns
returns c = law
