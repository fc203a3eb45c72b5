use Rattle.hg_history.proofs.FreeingLemmas.{seats_keep_one_history as law}
use Rattle.hg_history.proofs.seats_keep_one_history.Goals as goal

pub returns : goal.returns
returns c = law
