use Rattle.hg_rows.proofs.PartingRuns.{full_hand_is_busy as fact}
use Rattle.hg_rows.proofs.full_hand_is_busy.Goals as goal

pub returns : goal.returns
returns c = fact
