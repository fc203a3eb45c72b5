use Rattle.hg_roles.proofs.HistoryLemmas.{parts_keep_one_run as law}
use Rattle.hg_roles.proofs.parts_keep_one_run.Goals as goal

pub returns : goal.returns
returns c = law
