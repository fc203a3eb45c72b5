use Rattle.hg_roles.proofs.HistoryLemmas.{ends_are_runs as law}
use Rattle.hg_roles.proofs.ends_are_runs.Goals as goal

pub returns : goal.returns
returns c = law
