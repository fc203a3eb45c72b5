use Rattle.hg_rows.proofs.JudgingRuns.{no_such_segment as fact}
use Rattle.hg_rows.proofs.no_such_segment.Goals as goal

pub returns : goal.returns
returns c = fact
