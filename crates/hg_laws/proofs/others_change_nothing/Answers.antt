use Rattle.hg_laws.proofs.IntegrityLemmas.{others_change_nothing as law}
use Rattle.hg_laws.proofs.others_change_nothing.Goals as goal

pub returns : goal.returns
returns c = law
