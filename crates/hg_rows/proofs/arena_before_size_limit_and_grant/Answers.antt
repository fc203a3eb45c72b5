use Rattle.hg_rows.proofs.AllocatingRuns.{arena_before_size_limit_and_grant as fact}
use Rattle.hg_rows.proofs.arena_before_size_limit_and_grant.Goals as goal

pub returns : goal.returns
returns c = fact
