use Rattle.hg_replay.proofs.FirstLines.{stops_are_in_runs as law}
use Rattle.hg_replay.proofs.laws.stops_are_in_runs.Goals as goal

pub returns : goal.returns
returns c = law
