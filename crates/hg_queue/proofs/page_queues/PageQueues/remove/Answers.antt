use Rattle.hg_queue.proofs.QueuesRight.{queues_are, removed_right, removed_nowhere}
use Rattle.hg_queue.proofs.page_queues.PageQueues.remove.Goals as goal

pub returns-clause-queues : goal.returns-clause-queues
returns-clause-queues c = queues_are _ (removed_right _ _ _ c.self.invariant c.remove.ensures.removed c.remove.ensures.apart)

pub returns-clause-unchanged : goal.returns-clause-unchanged
returns-clause-unchanged c away = removed_nowhere _ _ _ _ c.self.view_is c.remove.ensures.removed away
