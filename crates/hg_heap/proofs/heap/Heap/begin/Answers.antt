use Rattle.hg_heap.specs.Settled.{IsSettled}
use Rattle.hg_heap.proofs.Founds.{found_of}
use Rattle.hg_heap.proofs.Beginning.{Begins, begun_there, arena_begun, own_begun, queued_begun}
use Rattle.hg_heap.proofs.Beginning.{right_begun, begun, class_begun, lists_begun, others_begun}
use Rattle.hg_heap.proofs.heap.Heap.begin.Goals as goal
use Rattle.hg_heap.proofs.heap.Heap.begin.Goals.{After-settled}
use Rattle.hg_heap.proofs.heap.Heap.begin.Given.{Over}

pub assign_page-requires-clause-begins : goal.assign_page-requires-clause-begins
assign_page-requires-clause-begins g c =
    begun_there g.S.SlotWords.number g.S.SlotWords.records c.self.inside.segments.items
    c.in-Some.found c.args.arena c.args.class c.args.page c.index_mut-segment.result.now
    (found_of g.S.SlotWords.number c.self.inside.segments.items _ c.in-Some.found
    c.index_mut-segment.result.now
    (rw (← c.self.view_is) at c.in-Some.ensures.some) c.index_mut-segment.ensures.value)
    (rw (← c.self.view_is) at c.requires.blank)

-- a page of the segment that was found got the class
begins : (g : Over) (c : After-settled g) → Begins g.S.SlotWords.number g.S.SlotWords.records
    c.self.inside.segments.items c.in-Some.found c.args.arena c.args.class c.args.page
    c.index_mut-segment.result.now c.assign_page.new.self
begins g c = record {
  here = found_of g.S.SlotWords.number c.self.inside.segments.items _ c.in-Some.found
      c.index_mut-segment.result.now
      (rw (← c.self.view_is) at c.in-Some.ensures.some) c.index_mut-segment.ensures.value;
  settled = c.self.invariant.settled;
  blank = rw (← c.self.view_is) at c.requires.blank;
  assigned = c.assign_page.ensures.assigned;
}

-- and keeps what each segment does
stays : (g : Over) (c : After-settled g) → IsSettled g.S.SlotWords.records c.assign_page.new.self
stays g c = record {
  lists = c.settled.ensures.lists;
  sizes = c.settled.ensures.sizes;
  runs = c.settled.ensures.runs;
  bounded = c.settled.ensures.bounded;
  opened = c.settled.ensures.«open»;
  listed = c.settled.ensures.listed;
  blocks = c.settled.ensures.blocks;
  pages = c.settled.ensures.all.0;
  classes = c.settled.ensures.all.1;
  words = c.settled.ensures.all.2;
}

pub requeue-requires-clause-arena : goal.requeue-requires-clause-arena
requeue-requires-clause-arena g c =
    arena_begun _ _ (begins g (goal.at.requeue-requires-clause-arena g c).After-settled)
    c.self.inside.queues g.met.S.SlotWords.numbered c.self.invariant

pub requeue-requires-clause-its_own : goal.requeue-requires-clause-its_own
requeue-requires-clause-its_own g c =
    own_begun _ _ (begins g (goal.at.requeue-requires-clause-its_own g c).After-settled)
    c.self.inside.queues c.self.invariant.queued

pub invariant_of-self : goal.invariant_of-self
invariant_of-self g c =
    let at = (goal.at.invariant_of-self g c).After-settled in
    right_begun _ _ (begins g at) c.self.inside.queues g.met.S.SlotWords.numbered
    c.self.invariant (stays g at) c.requeue.new.queues c.requeue.ensures.requeued

pub returns-clause-begun : goal.returns-clause-begun
returns-clause-begun g c =
    let at = (goal.at.returns-clause-begun g c).After-settled in
    rw (← c.self.view_is) (begun _ _ (begins g at) c.assign_page.ensures.blocks)

pub returns-clause-class : goal.returns-clause-class
returns-clause-class g c =
    class_begun _ _ (begins g (goal.at.returns-clause-class g c).After-settled)

pub returns-clause-lists : goal.returns-clause-lists
returns-clause-lists g c = rw (← c.self.view_is)
    (lists_begun _ _ (begins g (goal.at.returns-clause-lists g c).After-settled))

pub returns-clause-others : goal.returns-clause-others
returns-clause-others g c = rw (← c.self.view_is)
    (others_begun _ _ (begins g (goal.at.returns-clause-others g c).After-settled))

pub returns-clause-queued : goal.returns-clause-queued
returns-clause-queued g c =
    let at = (goal.at.returns-clause-queued g c).After-settled in
    queued_begun _ _ (begins g at) c.self.inside.queues g.met.S.SlotWords.numbered
    c.self.invariant (stays g at) c.requires.page c.requeue.new.queues c.requeue.ensures.requeued
