use Rattle.hg_replay.proofs.FirstLines.{first_lines_begin_runs as law}
use Rattle.hg_replay.proofs.laws.first_lines_begin_runs.Goals as goal

pub returns : goal.returns
returns c = law
