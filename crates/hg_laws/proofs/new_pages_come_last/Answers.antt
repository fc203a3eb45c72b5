use Rattle.hg_laws.proofs.WorkersLemmas.{new_pages_come_last as law}
use Rattle.hg_laws.proofs.new_pages_come_last.Goals as goal

pub returns : goal.returns
returns c = law
