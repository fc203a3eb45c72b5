use Rattle.hg_heap.proofs.PolicyKept.{steps_keep_policy}
use Rattle.hg_heap.proofs.laws.steps_keep_policy.Goals as goal

pub returns : goal.returns
returns g c = let w = g.S.SlotWords in steps_keep_policy w.number w.shows w.steps
