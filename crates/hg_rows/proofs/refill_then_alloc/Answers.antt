use Rattle.hg_rows.proofs.AllocatingRuns.{refill_then_alloc as fact}
use Rattle.hg_rows.proofs.refill_then_alloc.Goals as goal

pub returns : goal.returns
returns c = fact
