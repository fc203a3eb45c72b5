use Rattle.hg_replay.proofs.ReplayRuns.{replays_are_runs as law}
use Rattle.hg_replay.proofs.laws.replays_are_runs.Goals as goal

pub returns : goal.returns
returns c = law
