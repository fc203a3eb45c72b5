use Rattle.hg_hosted.specs.Leaving.{HoldsNoneBelow}
use Rattle.hg_hosted.proofs.leaving.first_held.Given as goal

abbrev pub invariant-loop-segment : goal.invariant-loop-segment
invariant-loop-segment l = HoldsNoneBelow l.state l.segment
