use Rattle.hg_heap.proofs.PolicyKept.{kinds_keep_policy}
use Rattle.hg_heap.proofs.laws.kinds_keep_policy.Goals as goal

pub returns : goal.returns
returns g c = let w = g.S.SlotWords in kinds_keep_policy w.number
