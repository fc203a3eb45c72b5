use Rattle.hg_rows.proofs.PartingRuns.{delayed_before_thread_free as fact}
use Rattle.hg_rows.proofs.delayed_before_thread_free.Goals as goal

pub returns : goal.returns
returns c = fact
