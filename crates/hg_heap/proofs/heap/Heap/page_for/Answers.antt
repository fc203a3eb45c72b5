use Rattle.std.proofs.Common.{ap, ◌∙◌, slice_get}
use Rattle.hg_lists.proofs.Listed.{Contains-first}
use Rattle.hg_size.specs.Sizes.{number_of_size}
use Rattle.hg_size.specs.SizeLaws.{key_of}
use Rattle.hg_queue.specs.Queues.{queue_of}
use Rattle.hg_heap.proofs.heap.Heap.page_for.Goals as goal

pub returns-in-Some-clause-queued : goal.returns-in-Some-clause-queued
returns-in-Some-clause-queued g c =
    Contains-first c.in-Some.page _ (c.in-Some.ensures.first
    ∙ ap (λ h. slice_get (queue_of h.queues (key_of c.args.arena (number_of_size c.args.class))) 0)
    c.self.view_is)
