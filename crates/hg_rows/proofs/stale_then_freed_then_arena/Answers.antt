use Rattle.hg_rows.proofs.JudgingRuns.{stale_then_freed_then_arena as fact}
use Rattle.hg_rows.proofs.stale_then_freed_then_arena.Goals as goal

pub returns : goal.returns
returns c = fact
