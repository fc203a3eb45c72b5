use Rattle.std.proofs.Common.{rules}
use Rattle.hg_hosted.proofs.Parking.{goes}
use Rattle.hg_hosted.proofs.parked.Parked.take.Goals as goal

pub try_pop_as-requires-clause-rule : goal.try_pop_as-requires-clause-rule
try_pop_as-requires-clause-rule g c = goes _ _ _ (search rules)
