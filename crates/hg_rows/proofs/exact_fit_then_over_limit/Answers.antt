use Rattle.hg_rows.proofs.AllocatingRuns.{exact_fit_then_over_limit as fact}
use Rattle.hg_rows.proofs.exact_fit_then_over_limit.Goals as goal

pub returns : goal.returns
returns c = fact
