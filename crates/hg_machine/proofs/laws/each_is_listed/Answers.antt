use Rattle.hg_machine.proofs.Listed.{each_is_listed as law}
use Rattle.hg_machine.proofs.laws.each_is_listed.Goals as goal

pub returns : goal.returns
returns c = law
