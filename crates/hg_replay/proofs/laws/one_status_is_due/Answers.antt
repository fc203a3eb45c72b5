use Rattle.hg_replay.proofs.StatusLaws.{one_status_is_due as law}
use Rattle.hg_replay.proofs.laws.one_status_is_due.Goals as goal

pub returns : goal.returns
returns c = law
