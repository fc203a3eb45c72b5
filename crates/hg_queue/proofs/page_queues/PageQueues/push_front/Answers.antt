use Rattle.hg_queue.proofs.QueuesRight.{queues_are, pushed_right}
use Rattle.hg_queue.proofs.page_queues.PageQueues.push_front.Goals as goal

pub returns-clause-queues : goal.returns-clause-queues
returns-clause-queues c = queues_are _ (pushed_right _ _ _ _ c.self.invariant c.push_front.ensures.pushed c.push_front.ensures.apart)
