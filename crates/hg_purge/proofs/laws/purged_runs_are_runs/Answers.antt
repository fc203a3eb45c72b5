use Rattle.hg_purge.proofs.Purges.{purged_runs_are_runs as law}
use Rattle.hg_purge.proofs.laws.purged_runs_are_runs.Goals as goal

pub returns : goal.returns
returns c = law
