use Rattle.std.proofs.Common.{◌≡◌, ◌*◌}
use Rattle.hg_heap.proofs.Entered.{AreEntered}
use Rattle.hg_heap.proofs.adopting.enter_pages.Given as goal

abbrev pub invariant-loop-page : goal.invariant-loop-page
invariant-loop-page g l =
    AreEntered l.segment (g.S.SlotWords.number l.segment.slots * 16) l.page l.fn.queues l.queues
    × (l.first ≡ g.S.SlotWords.number l.segment.slots * 16)
