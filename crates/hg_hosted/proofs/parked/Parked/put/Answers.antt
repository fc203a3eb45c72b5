use Rattle.std.proofs.Common.{rules}
use Rattle.hg_hosted.proofs.Parking.{comes}
use Rattle.hg_hosted.proofs.parked.Parked.put.Goals as goal

pub try_push_as-requires-clause-rule : goal.try_push_as-requires-clause-rule
try_push_as-requires-clause-rule g c = comes _ _ _ _ _ (search rules) c.requires.part
