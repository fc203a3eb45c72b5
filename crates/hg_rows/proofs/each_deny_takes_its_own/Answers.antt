use Rattle.hg_rows.proofs.DenyingRuns.{each_deny_takes_its_own as fact}
use Rattle.hg_rows.proofs.each_deny_takes_its_own.Goals as goal

pub returns : goal.returns
returns c = fact
