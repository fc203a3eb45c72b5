use Rattle.hg_rows.proofs.JudgingRuns.{stranger_then_stale_then_grant as fact}
use Rattle.hg_rows.proofs.stranger_then_stale_then_grant.Goals as goal

pub returns : goal.returns
returns c = fact
