use Rattle.hg_events.proofs.PartedInHeap.{free_is_parted_in_heap as law}
use Rattle.hg_events.proofs.laws.free_is_parted_in_heap.Goals as goal

pub returns : goal.returns
returns c = law
