use Rattle.hg_laws.proofs.LimitsLemmas.{allocations_are_charged as law}
use Rattle.hg_laws.proofs.allocations_are_charged.Goals as goal

pub returns : goal.returns
returns c = law
