use Rattle.hg_state.proofs.CostsTold.{no_less_is_given as law}
use Rattle.hg_state.proofs.laws.no_less_is_given.Goals as goal

pub returns : goal.returns
returns c = law
