use Rattle.hg_laws.proofs.LivesLemmas.{forged_is_denied as law}
use Rattle.hg_laws.proofs.forged_is_denied.Goals as goal

pub returns : goal.returns
returns c = law
