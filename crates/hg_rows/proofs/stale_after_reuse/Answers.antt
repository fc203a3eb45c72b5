use Rattle.hg_rows.proofs.LivesRuns.{stale_after_reuse as fact}
use Rattle.hg_rows.proofs.stale_after_reuse.Goals as goal

pub returns : goal.returns
returns c = fact
