use Rattle.hg_rows.proofs.PartingRuns.{delivered_then_taken as fact}
use Rattle.hg_rows.proofs.delivered_then_taken.Goals as goal

pub returns : goal.returns
returns c = fact
