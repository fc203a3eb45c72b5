use Rattle.std.proofs.Common.{◌∙◌, sym, Contains}
use Rattle.std.proofs.lemmas.Bool.{true≢false}
use Rattle.hg_size.specs.Sizes.{number_of_size}
use Rattle.hg_size.specs.SizeLaws.{key_of}
use Rattle.hg_queue.specs.Queues.{queue_of}
use Rattle.hg_heap.proofs.Founds.{found_of, found_is}
use Rattle.hg_heap.proofs.Giving.{Gives, held_queued, place_queued, room_for, right_given}
use Rattle.hg_heap.proofs.Giving.{class_given, opened, given_out, queues_given}
use Rattle.hg_heap.proofs.heap.Heap.give_out.Goals as goal
use Rattle.hg_heap.proofs.heap.Heap.give_out.Goals.{After-self, After-block_bytes}
use Rattle.hg_heap.proofs.heap.Heap.give_out.Given.{Over}

-- the page stands in its queue
on : (g : Over) (c : After-self g) → Contains (queue_of c.self.inside.queues
    (key_of c.args.arena (number_of_size c.args.class))) c.args.page
on g c = rw (← c.self.view_is) at c.requires.queued

-- its segment gave out the place of the handle
gives : (g : Over) (c : After-block_bytes g) → Gives g.S.SlotWords.number g.S.SlotWords.records
    c.self.inside.segments.items c.in-Some.found c.args.arena c.args.class c.args.page c.args.owner
    c.index_mut-segment.result.now c.open_in.new.self c.in-Some-open_in.handle
gives g c =
    let i = c.in-Some-open_in.ensures in
    record {
      here = found_of g.S.SlotWords.number c.self.inside.segments.items _ c.in-Some.found
          c.index_mut-segment.result.now
          (rw (← c.self.view_is) at c.in-Some.ensures.some) c.index_mut-segment.ensures.value;
      settled = c.self.invariant.settled;
      sized = c.block_bytes.ensures.listed;
      key = (c.self.invariant.queued.only _ c.args.page
          (rw (← c.self.view_is) at c.requires.queued)).0;
      number_kept = i.number;
      fixed = i.fixed;
      segment = i.segment;
      page_is = i.page;
      vacant = i.vacant;
      standings = i.records;
      popped = i.popped;
      lists = i.lists;
    }

pub open_in-requires-clause-allowed : goal.open_in-requires-clause-allowed
open_in-requires-clause-allowed g c = λ index word after low pops.
    (rw (← c.self.view_is) at c.requires.allowed) index after c.index_mut-segment.result.now low
    (found_is g.S.SlotWords.number c.self.inside.segments.items _ c.in-Some.found
    c.index_mut-segment.result.now
    (found_of g.S.SlotWords.number c.self.inside.segments.items _ c.in-Some.found
    c.index_mut-segment.result.now
    (rw (← c.self.view_is) at c.in-Some.ensures.some) c.index_mut-segment.ensures.value))
    pops word

pub unreachable-requires : goal.unreachable-requires
unreachable-requires g c =
    true≢false (sym (held_queued g.S.SlotWords.number g.S.SlotWords.records
    c.self.inside.segments.items c.self.inside.queues c.self.invariant.queued _ c.args.page
    (on g (goal.at.unreachable-requires g c).After-self))
    ∙ (rw (← c.self.view_is) at c.in_default.ensures.none))

pub unreachable-requires-in_default-open_in : goal.unreachable-requires-in_default-open_in
unreachable-requires-in_default-open_in g c =
    place_queued g.S.SlotWords.number g.S.SlotWords.records c.self.inside.segments.items
    c.self.inside.queues c.self.invariant.queued _ c.args.page
    (on g (goal.at.unreachable-requires-in_default-open_in g c).After-self) c.in-Some.found
    c.index_mut-segment.result.now
    (found_of g.S.SlotWords.number c.self.inside.segments.items _ c.in-Some.found
    c.index_mut-segment.result.now
    (rw (← c.self.view_is) at c.in-Some.ensures.some) c.index_mut-segment.ensures.value)
    c.in_default-open_in.ensures.none.0

pub raise-requires-clause-room : goal.raise-requires-clause-room
raise-requires-clause-room g c =
    rw c.block_bytes.ensures.value
    (room_for g.S.SlotWords.number g.S.SlotWords.records _ _ _ _ c.self.invariant
    g.met.S.SlotWords.sized c.args.owner c.args.class c.requires.owner
    c.block_bytes.ensures.listed)

pub invariant_of-self : goal.invariant_of-self
invariant_of-self g c =
    let at = goal.at.invariant_of-self g c in
    let s = c.settled.ensures in
    right_given _ _ (gives g at.After-block_bytes) c.self.inside.queues c.part_full.new.queues
    c.is_full-is_full.result c.is_full-is_full.ensures.0 c.is_full-is_full.ensures.1
    (c.part_full.ensures _ (on g at.After-self)) g.met.S.SlotWords.numbered
    g.met.S.SlotWords.sized c.self.inside.table.value c.self.inside.charges c.raise.new.self
    c.self.inside.segments.cap c.self.invariant
    c.block_bytes.result c.block_bytes.ensures.value c.requires.owner
    (record {
      lists = s.lists;
      sizes = s.sizes;
      runs = s.runs;
      bounded = s.bounded;
      opened = s.«open»;
      listed = s.listed;
      blocks = s.blocks;
      pages = s.all.0;
      classes = s.all.1;
      words = s.all.2;
    })
    c.raise.ensures

pub returns-clause-opened : goal.returns-clause-opened
returns-clause-opened g c =
    let p = gives g (goal.at.returns-clause-opened g c).After-block_bytes in
    let i = c.in-Some-open_in.ensures in
    rw (← c.self.view_is) (opened _ _ p i.step.0 g.S.SlotWords.shows g.S.SlotWords.steps i.step.1
    i.step.2 i.generation (i.zero c.args.class (class_given _ _ p)) i.others)

pub returns-clause-lists : goal.returns-clause-lists
returns-clause-lists g c = rw (← c.self.view_is)
    (given_out _ _ (gives g (goal.at.returns-clause-lists g c).After-block_bytes))

pub returns-clause-queues : goal.returns-clause-queues
returns-clause-queues g c =
    let at = goal.at.returns-clause-queues g c in
    rw (← c.self.view_is) (queues_given _ _ (gives g at.After-block_bytes) c.self.inside.queues
    c.part_full.new.queues c.is_full-is_full.result c.is_full-is_full.ensures.0
    c.is_full-is_full.ensures.1 (c.part_full.ensures _ (on g at.After-self)))
