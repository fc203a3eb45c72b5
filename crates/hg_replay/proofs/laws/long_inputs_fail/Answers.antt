use Rattle.hg_replay.proofs.StatusLaws.{long_inputs_fail as law}
use Rattle.hg_replay.proofs.laws.long_inputs_fail.Goals as goal

pub returns : goal.returns
returns c = law
