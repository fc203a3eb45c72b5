use Rattle.hg_replay.proofs.ReplayRuns.{replays_keep_policy as law}
use Rattle.hg_replay.proofs.laws.replays_keep_policy.Goals as goal

pub returns : goal.returns
returns c = law
