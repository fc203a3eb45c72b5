use Rattle.hg_machine.proofs.Listed.{none_stands_twice as law}
use Rattle.hg_machine.proofs.laws.none_stands_twice.Goals as goal

pub returns : goal.returns
returns c = law
