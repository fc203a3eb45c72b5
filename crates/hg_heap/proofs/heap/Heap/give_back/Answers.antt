use Rattle.hg_segment.specs.Kept.{Kept}
use Rattle.hg_heap.proofs.Founds.{found_of}
use Rattle.hg_heap.proofs.MeetCall.{found_may, lists_met, right_met, changed_here}
use Rattle.hg_heap.proofs.heap.Heap.give_back.Goals as goal

pub give_back-what-requires : goal.give_back-what-requires
give_back-what-requires g c = let w = g.S.SlotWords in
    found_may w.number w.records c.self.inside.segments.items c.in-Some.found
    c.args.segment c.index_mut-held.result.now
    (found_of w.number c.self.inside.segments.items c.args.segment c.in-Some.found
    c.index_mut-held.result.now (rw (← c.self.view_is) at c.in-Some.ensures.some)
    c.index_mut-held.ensures.value)
    (λ (k : Kept g.row.S.Denot). w.may_give_back k.slots)
    (rw (← c.self.view_is) at c.requires.may_give_back)

pub invariant_of-self : goal.invariant_of-self
invariant_of-self g c = let w = g.S.SlotWords in let m = c.give_back-what.ensures in let s =
    c.settled.ensures in
    right_met w.number w.records c.self.inside.segments.items c.in-Some.found
    c.args.segment c.index_mut-held.result.now
    (found_of w.number c.self.inside.segments.items c.args.segment c.in-Some.found
    c.index_mut-held.result.now (rw (← c.self.view_is) at c.in-Some.ensures.some)
    c.index_mut-held.ensures.value)
    c.give_back-what.new.self m.number m.records m.others _ _ _ _ c.self.invariant
    (record {
      lists = s.lists;
      sizes = s.sizes;
      runs = s.runs;
      bounded = s.bounded;
      opened = s.open;
      listed = s.listed;
      blocks = s.blocks;
      pages = s.all.0;
      classes = s.all.1;
      words = s.all.2;
    })

pub returns-clause-given : goal.returns-clause-given
returns-clause-given g c = let w = g.S.SlotWords in let m = c.give_back-what.ensures in
    rw (← c.self.view_is)
    (changed_here w.number w.records c.self.inside.segments.items c.in-Some.found
    c.args.segment c.index_mut-held.result.now
    (found_of w.number c.self.inside.segments.items c.args.segment c.in-Some.found
    c.index_mut-held.result.now (rw (← c.self.view_is) at c.in-Some.ensures.some)
    c.index_mut-held.ensures.value)
    c.give_back-what.new.self m.number m.records m.others w.shows (λ slots after. w.gives_back slots c.give_back-what.result after) m.shows m.given)

pub returns-clause-lists : goal.returns-clause-lists
returns-clause-lists g c = let w = g.S.SlotWords in let m = c.give_back-what.ensures in
    rw (← c.self.view_is)
    (lists_met w.number w.records c.self.inside.segments.items c.in-Some.found
    c.args.segment c.index_mut-held.result.now
    (found_of w.number c.self.inside.segments.items c.args.segment c.in-Some.found
    c.index_mut-held.result.now (rw (← c.self.view_is) at c.in-Some.ensures.some)
    c.index_mut-held.ensures.value)
    c.give_back-what.new.self m.number m.records m.others)
