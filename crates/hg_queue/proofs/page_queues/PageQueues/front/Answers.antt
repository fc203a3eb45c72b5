use Rattle.hg_queue.proofs.QueuesRight.{queues_seen, first_below}
use Rattle.hg_queue.proofs.page_queues.PageQueues.front.Goals as goal

pub returns-clause-queues : goal.returns-clause-queues
returns-clause-queues c = queues_seen _ _ c.self.view_is c.self.invariant

pub returns-clause-page : goal.returns-clause-page
returns-clause-page c = first_below _ _ _ c.self.invariant c.front.ensures.first
