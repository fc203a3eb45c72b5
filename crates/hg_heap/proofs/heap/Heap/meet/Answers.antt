use Rattle.std.proofs.Common.{refl}
use Rattle.hg_segment.specs.Kept.{Kept}
use Rattle.hg_heap.proofs.Founds.{found_of}
use Rattle.hg_heap.proofs.MeetCall.{found_may, lists_met, right_met, met_here}
use Rattle.hg_heap.proofs.heap.Heap.meet.Goals as goal

pub meet-word-requires-clause-may_meet : goal.meet-word-requires-clause-may_meet
meet-word-requires-clause-may_meet g c = let w = g.S.SlotWords in
    found_may w.number w.records c.self.inside.segments.items c.in-Some.found
    c.args.place.segment c.index_mut-segment.result.now
    (found_of w.number c.self.inside.segments.items c.args.place.segment c.in-Some.found
    c.index_mut-segment.result.now (rw (← c.self.view_is) at c.in-Some.ensures.some)
    c.index_mut-segment.ensures.value)
    (λ (k : Kept g.row.S.Denot). w.may_meet k.slots c.args.other.now)
    (rw (← c.self.view_is) at c.requires.may_meet)

pub invariant_of-self : goal.invariant_of-self
invariant_of-self g c = let w = g.S.SlotWords in let m = c.meet-word.ensures in let s =
    c.settled.ensures in
    right_met w.number w.records c.self.inside.segments.items c.in-Some.found
    c.args.place.segment c.index_mut-segment.result.now
    (found_of w.number c.self.inside.segments.items c.args.place.segment c.in-Some.found
    c.index_mut-segment.result.now (rw (← c.self.view_is) at c.in-Some.ensures.some)
    c.index_mut-segment.ensures.value)
    c.meet-word.new.self m.number m.records m.others _ _ _ _ c.self.invariant
    (record {
      lists = s.lists;
      sizes = s.sizes;
      runs = s.runs;
      bounded = s.bounded;
      opened = s.open;
      listed = s.listed;
      blocks = s.blocks;
      pages = s.all.0;
      classes = s.all.1;
      words = s.all.2;
    })

pub returns-clause-met : goal.returns-clause-met
returns-clause-met g c = let w = g.S.SlotWords in let m = c.meet-word.ensures in
    rw (← c.self.view_is)
    (met_here w.number w.records c.self.inside.segments.items c.in-Some.found
    c.args.place.segment c.index_mut-segment.result.now
    (found_of w.number c.self.inside.segments.items c.args.place.segment c.in-Some.found
    c.index_mut-segment.result.now (rw (← c.self.view_is) at c.in-Some.ensures.some)
    c.index_mut-segment.ensures.value)
    c.meet-word.new.self m.number m.records m.others w.shows w.meets c.args.place refl c.meet-word.result c.args.other.now
    c.meet-word.new.other m.shown m.met)

pub returns-clause-lists : goal.returns-clause-lists
returns-clause-lists g c = let w = g.S.SlotWords in let m = c.meet-word.ensures in
    rw (← c.self.view_is)
    (lists_met w.number w.records c.self.inside.segments.items c.in-Some.found
    c.args.place.segment c.index_mut-segment.result.now
    (found_of w.number c.self.inside.segments.items c.args.place.segment c.in-Some.found
    c.index_mut-segment.result.now (rw (← c.self.view_is) at c.in-Some.ensures.some)
    c.index_mut-segment.ensures.value)
    c.meet-word.new.self m.number m.records m.others)
