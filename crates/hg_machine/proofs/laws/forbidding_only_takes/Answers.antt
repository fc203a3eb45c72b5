use Rattle.hg_machine.proofs.Unforbidden.{forbidding_only_takes as law}
use Rattle.hg_machine.proofs.laws.forbidding_only_takes.Goals as goal

pub returns : goal.returns
returns c = law
