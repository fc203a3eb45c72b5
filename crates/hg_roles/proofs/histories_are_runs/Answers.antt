use Rattle.hg_roles.proofs.HistoryLemmas.{histories_are_runs as law}
use Rattle.hg_roles.proofs.histories_are_runs.Goals as goal

pub returns : goal.returns
returns c = law
