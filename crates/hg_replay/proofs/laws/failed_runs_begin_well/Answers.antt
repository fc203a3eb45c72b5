use Rattle.hg_replay.proofs.StatusLaws.{failed_runs_begin_well as law}
use Rattle.hg_replay.proofs.laws.failed_runs_begin_well.Goals as goal

pub returns : goal.returns
returns c = law
