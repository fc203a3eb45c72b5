use Rattle.hg_rows.proofs.GrantingRuns.{each_right_serves_its_own as fact}
use Rattle.hg_rows.proofs.each_right_serves_its_own.Goals as goal

pub returns : goal.returns
returns c = fact
