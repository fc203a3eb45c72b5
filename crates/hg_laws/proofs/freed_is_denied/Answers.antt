use Rattle.hg_laws.proofs.LivesLemmas.{freed_is_denied as law}
use Rattle.hg_laws.proofs.freed_is_denied.Goals as goal

pub returns : goal.returns
returns c = law
