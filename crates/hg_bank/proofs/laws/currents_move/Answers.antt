use Rattle.hg_bank.proofs.CurrentLemmas.{currents_move as law}
use Rattle.hg_bank.proofs.laws.currents_move.Goals as goal

pub returns : goal.returns
returns c = law
