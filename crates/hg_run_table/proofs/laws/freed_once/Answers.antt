use Rattle.hg_run_table.proofs.FreedLemmas.{freed_once as law}
use Rattle.hg_run_table.proofs.laws.freed_once.Goals as goal

pub returns : goal.returns
returns c = law
