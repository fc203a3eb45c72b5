use Rattle.std.proofs.Common.{rules}
use Rattle.hg_hosted.proofs.Parking.{begins, founds}
use Rattle.hg_hosted.proofs.parked.Parked.new.Goals as goal

pub ruled-requires-clause-rule : goal.ruled-requires-clause-rule
ruled-requires-clause-rule g c = begins _

pub try_push_as-requires-clause-rule : goal.try_push_as-requires-clause-rule
try_push_as-requires-clause-rule g c = founds _ _ _ _ _ _ _ (search rules) c.requires.of
