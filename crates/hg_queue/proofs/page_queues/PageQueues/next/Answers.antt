use Rattle.hg_queue.proofs.QueuesRight.{queues_seen}
use Rattle.hg_queue.proofs.page_queues.PageQueues.next.Goals as goal

pub returns-clause-queues : goal.returns-clause-queues
returns-clause-queues c = queues_seen _ _ c.self.view_is c.self.invariant
