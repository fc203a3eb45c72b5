use Rattle.hg_rows.proofs.HoldingRuns.{orphans_by_turn as fact}
use Rattle.hg_rows.proofs.orphans_by_turn.Goals as goal

pub returns : goal.returns
returns c = fact
