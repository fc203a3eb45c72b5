use Rattle.hg_replay.proofs.StatusLaws.{runs_end_as_due as law}
use Rattle.hg_replay.proofs.laws.runs_end_as_due.Goals as goal

pub returns : goal.returns
returns c = law
