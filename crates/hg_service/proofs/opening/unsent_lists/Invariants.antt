use Rattle.hg_service.specs.New.{AreUnsent}
use Rattle.hg_service.proofs.opening.unsent_lists.Given as goal

abbrev pub invariant-loop-segment : goal.invariant-loop-segment
invariant-loop-segment g l = AreUnsent l.segment l.lists.items
