use Rattle.std.proofs.Common.{◌≡◌, ◌*◌}
use Rattle.hg_heap.proofs.PagesRemoved.{AreRemoved}
use Rattle.hg_heap.proofs.releasing.remove_pages.Given as goal

abbrev pub invariant-loop-page : goal.invariant-loop-page
invariant-loop-page l =
    AreRemoved (l.segment * 16) l.page l.fn.queues l.queues × (l.first ≡ l.segment * 16)
