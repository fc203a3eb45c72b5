use Rattle.hg_laws.proofs.WorkersLemmas.{workers_keep_apart as law}
use Rattle.hg_laws.proofs.workers_keep_apart.Goals as goal

pub returns : goal.returns
returns c = law
