use Rattle.std.proofs.Common.{rules}
use Rattle.hg_hosted.proofs.Parking.{twins}
use Rattle.hg_hosted.proofs.parked.Parked.share.Goals as goal

pub another-pass-requires-clause-rule : goal.another-pass-requires-clause-rule
another-pass-requires-clause-rule g c = twins _ _ _ (search rules)
