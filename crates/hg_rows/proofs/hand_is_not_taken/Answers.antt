use Rattle.hg_rows.proofs.PartingRuns.{hand_is_not_taken as fact}
use Rattle.hg_rows.proofs.hand_is_not_taken.Goals as goal

pub returns : goal.returns
returns c = fact
