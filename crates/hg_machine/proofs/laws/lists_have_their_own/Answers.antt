use Rattle.hg_machine.proofs.Listed.{lists_have_their_own as law}
use Rattle.hg_machine.proofs.laws.lists_have_their_own.Goals as goal

pub returns : goal.returns
returns c = law
