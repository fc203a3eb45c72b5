use Rattle.hg_core.proofs.OpenLists.{queues_none}
use Rattle.hg_core.proofs.opening.empty_heap.Goals as goal

pub returns-clause-queues : goal.returns-clause-queues
returns-clause-queues c =
    queues_none c.in_ok-heap.heap.queues c.settled.ensures.queued.queues c.in_ok-heap.ensures.queues
