use Rattle.hg_history.proofs.FreeingLemmas.{first_frees_alone as law}
use Rattle.hg_history.proofs.first_frees_alone.Goals as goal

pub returns : goal.returns
returns c = law
