use Rattle.hg_heap.proofs.SettledHeap.{vacant_on}
use Rattle.hg_heap.proofs.heap.Heap.settled.Goals as goal

pub returns-clause-each : goal.returns-clause-each
returns-clause-each g c = rw (← c.self.view_is) c.self.invariant.settled

pub returns-clause-once : goal.returns-clause-once
returns-clause-once g c = rw (← c.self.view_is) c.self.invariant.tabled.once

pub returns-clause-arenas : goal.returns-clause-arenas
returns-clause-arenas g c = rw (← c.self.view_is) c.self.invariant.arenas

pub returns-clause-vacant : goal.returns-clause-vacant
returns-clause-vacant g c = rw (← c.self.view_is)
    (λ page. vacant_on g.S.SlotWords.number g.S.SlotWords.records _ c.self.invariant.settled page)
