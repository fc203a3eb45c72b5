use Rattle.hg_rows.proofs.HoldingRuns.{abandon_and_adopt_with_live_blocks as fact}
use Rattle.hg_rows.proofs.abandon_and_adopt_with_live_blocks.Goals as goal

pub returns : goal.returns
returns c = fact
