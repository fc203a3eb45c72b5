use Rattle.std.proofs.Common.{◌∙◌, sym, arith}
use Rattle.hg_heap.specs.Settled.{IsSettled}
use Rattle.hg_heap.proofs.Founds.{Found, found_of, number_is}
use Rattle.hg_heap.proofs.CameBack.{CameBack, back_of, arena_below, owner_pays}
use Rattle.hg_heap.proofs.CameBack.{in_its_own, is_taken, right_back, is_passed, right_passed}
use Rattle.hg_heap.proofs.Letting.{quiet_found, quiet_after}
use Rattle.hg_heap.proofs.heap.Heap.take_one.Goals as goal
use Rattle.hg_heap.proofs.heap.Heap.take_one.Goals.{After-settled, In-Some-owner}
use Rattle.hg_heap.proofs.heap.Heap.take_one.Given.{Over}

-- the segment that was found
here : (g : Over) (c : After-settled g) → Found g.S.SlotWords.number c.self.inside.segments.items
    c.args.segment c.in-Some.found c.index_mut-segment.result.now
here g c = found_of g.S.SlotWords.number c.self.inside.segments.items c.args.segment
    c.in-Some.found c.index_mut-segment.result.now
    (rw (← c.self.view_is) at c.in-Some.ensures.some) c.index_mut-segment.ensures.value

-- which keeps what each segment does
stays : (g : Over) (c : After-settled g) → IsSettled g.S.SlotWords.records
    c.bring_home-owner.new.segment
stays g c = let s = c.settled.ensures in
    record {
      lists = s.lists;
      sizes = s.sizes;
      runs = s.runs;
      bounded = s.bounded;
      opened = s.open;
      listed = s.listed;
      blocks = s.blocks;
      pages = s.all.0;
      classes = s.all.1;
      words = s.all.2;
    }

pub bring_home-owner-requires-clause-quiet : goal.bring_home-owner-requires-clause-quiet
bring_home-owner-requires-clause-quiet g c =
    let w = g.S.SlotWords in
    quiet_found w.number w.quiet c.self.inside.segments.items c.args.segment c.in-Some.found
    c.index_mut-segment.result.now
    (found_of w.number c.self.inside.segments.items c.args.segment c.in-Some.found
    c.index_mut-segment.result.now (rw (← c.self.view_is) at c.in-Some.ensures.some)
    c.index_mut-segment.ensures.value)
    (rw (← c.self.view_is) at c.requires.quiet)

pub returns-in_default-owner-clause-quiet : goal.returns-in_default-owner-clause-quiet
returns-in_default-owner-clause-quiet g c =
    let w = g.S.SlotWords in
    let at = (goal.at.returns-in_default-owner-clause-quiet g c).After-settled in
    quiet_after w.number w.quiet c.self.inside.segments.items c.args.segment c.in-Some.found
    c.index_mut-segment.result.now c.bring_home-owner.new.segment (here g at)
    c.bring_home-owner.ensures.number c.bring_home-owner.ensures.quiet

pub returns-clause-quiet : goal.returns-clause-quiet
returns-clause-quiet g c =
    let w = g.S.SlotWords in
    let at = (goal.at.returns-clause-quiet g c).After-settled in
    quiet_after w.number w.quiet c.self.inside.segments.items c.args.segment c.in-Some.found
    c.index_mut-segment.result.now c.bring_home-owner.new.segment (here g at)
    c.bring_home-owner.ensures.number c.bring_home-owner.ensures.quiet

pub invariant_of-self : goal.invariant_of-self
invariant_of-self g c =
    let w = g.S.SlotWords in
    let at = (goal.at.invariant_of-self g c).After-settled in
    right_passed w.number w.records w.shows w.steps (here g at) c.bring_home-owner.ensures.number
    c.in_default-owner.ensures.away _ _ _ _ c.self.invariant (stays g at)

pub returns-in_default-owner-clause-passed : goal.returns-in_default-owner-clause-passed
returns-in_default-owner-clause-passed g c =
    let w = g.S.SlotWords in
    let at = (goal.at.returns-in_default-owner-clause-passed g c).After-settled in
    rw (← c.self.view_is) (λ _. is_passed w.number w.records w.shows w.steps (here g at)
    c.bring_home-owner.ensures.number c.in_default-owner.ensures.away c.self.inside.queues)

-- a place of it came back
back : (g : Over) (c : In-Some-owner g) → CameBack g.S.SlotWords.number g.S.SlotWords.records
    g.S.SlotWords.shows g.S.SlotWords.steps c.self.inside.segments.items c.in-Some.found
    c.args.segment c.args.page c.args.index c.in-Some-owner.owner c.index_mut-segment.result.now
    c.bring_home-owner.new.segment
back g c =
    let w = g.S.SlotWords in
    let one = c.index_mut-segment.result.now.slots in
    back_of w.number w.records w.shows w.steps _ _ _ _ _ _ _ _
    (found_of w.number c.self.inside.segments.items c.args.segment c.in-Some.found _
    (rw (← c.self.view_is) at c.in-Some.ensures.some) c.index_mut-segment.ensures.value)
    c.self.invariant.settled (g.met.S.SlotWords.sized one) (g.met.S.SlotWords.sane one)
    c.requires.page c.requires.index c.bring_home-owner.ensures.number
    c.in-Some-owner.ensures.home

pub lower-requires-clause-left : goal.lower-requires-clause-left
lower-requires-clause-left g c =
    owner_pays (back g (goal.at.lower-requires-clause-left g c).In-Some-owner)
    (sym c.class_of.ensures ∙ c.in-Some-class_of.is) c.block_bytes.ensures.value c.self.invariant

pub invariant_of-place : goal.invariant_of-place
invariant_of-place g c =
    let low = g.met.S.SlotWords.numbered c.index_mut-segment.result.now.slots in
    let is = number_is g.S.SlotWords.number _ _ _ _
    (here g (goal.at.invariant_of-place g c).After-settled) in
    record {
      segment_below = omega (arith, low, is);
      page_below = c.requires.page;
      index_below = c.requires.index;
    }

pub requeue-requires-clause-arena : goal.requeue-requires-clause-arena
requeue-requires-clause-arena g c =
    arena_below (back g (goal.at.requeue-requires-clause-arena g c).In-Some-owner)
    c.arena-arena.ensures c.self.invariant.arenas

pub requeue-requires-clause-its_own : goal.requeue-requires-clause-its_own
requeue-requires-clause-its_own g c =
    in_its_own (back g (goal.at.requeue-requires-clause-its_own g c).In-Some-owner)
    (sym c.class_of.ensures ∙ c.in-Some-class_of.is) c.arena-arena.ensures
    c.page_of.ensures.number c.self.invariant

pub invariant_of-self-2 : goal.invariant_of-self-2
invariant_of-self-2 g c =
    let at = goal.at.invariant_of-self-2 g c in
    right_back (back g at.In-Some-owner) (sym c.class_of.ensures ∙ c.in-Some-class_of.is)
    c.arena-arena.ensures c.page_of.ensures.number c.self.inside.queues
    c.is_full-is_full.ensures.0 c.is_full-is_full.ensures.1 c.requeue.ensures.requeued (stays g at.After-settled)
    g.met.S.SlotWords.numbered c.block_bytes.ensures.value c.lower.ensures c.self.invariant

pub returns-clause-taken : goal.returns-clause-taken
returns-clause-taken g c =
    let h = back g (goal.at.returns-clause-taken g c).In-Some-owner in
    rw (← c.self.view_is) (λ _. is_taken h (sym c.class_of.ensures ∙ c.in-Some-class_of.is)
    c.arena-arena.ensures c.page_of.ensures.number c.self.inside.queues
    c.is_full-is_full.ensures.0 c.is_full-is_full.ensures.1 c.requeue.ensures.requeued)
