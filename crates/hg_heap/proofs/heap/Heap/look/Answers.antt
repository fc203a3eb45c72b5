use Rattle.std.proofs.Common.{ap}
use Rattle.hg_heap.proofs.Founds.{found_of}
use Rattle.hg_heap.proofs.Judging.{all_kept, row_kept, shown_live, some_row}
use Rattle.hg_heap.proofs.Looking.{stepped, heap_lists, heap_right}
use Rattle.hg_heap.proofs.LookCall.{look_tied}
use Rattle.hg_heap.proofs.Letting.{lets_look}
use Rattle.hg_heap.proofs.heap.Heap.look.Goals as goal

pub row_of-row-requires : goal.row_of-row-requires
row_of-row-requires g c =
    let w = g.S.SlotWords in
    let here = found_of w.number c.self.inside.segments.items c.args.place.segment c.in-Some.found
    c.index_mut-segment.result.now (rw (← c.self.view_is) at c.in-Some.ensures.some)
    c.index_mut-segment.ensures.value in
    lets_look w.number w.shows w.allows c.self.inside.segments.items c.args.place c.in-Some.found
    c.index_mut-segment.result.now here (rw (← c.self.view_is) at c.requires.allowed)

pub invariant_of-self : goal.invariant_of-self
invariant_of-self g c =
    let w = g.S.SlotWords in
    let here = found_of w.number c.self.inside.segments.items c.args.place.segment
    c.in-Some.found c.index_mut-segment.result.now
    (rw (← c.self.view_is) at c.in-Some.ensures.some)
    c.index_mut-segment.ensures.value in
    let r = c.row_of-row.ensures in
    let s = c.settled.ensures in
    heap_right here r.looked _ _ _ _ c.self.invariant
    (record {
      lists = s.lists;
      sizes = s.sizes;
      runs = s.runs;
      bounded = s.bounded;
      opened = s.open;
      listed = s.listed;
      blocks = s.blocks;
      pages = s.all.0;
      classes = s.all.1;
      words = s.all.2;
    })

pub returns : goal.returns
returns g c =
    let w = g.S.SlotWords in
    let here = found_of w.number c.self.inside.segments.items c.args.place.segment
    c.in-Some.found c.index_mut-segment.result.now
    (rw (← c.self.view_is) at c.in-Some.ensures.some)
    c.index_mut-segment.ensures.value in
    let r = c.row_of-row.ensures in record {
      step = rw (← c.self.view_is)
          (stepped here r.looked);
      ties = rw (← c.self.view_is)
          (look_tied w.number w.records w.shows w.steps g.met.S.SlotWords.fits c.args.policy.now
          c.self.inside.segments.items c.in-Some.found c.row_of-row.new.shown c.args.actor
          c.args.place
          c.index_mut-segment.result.now c.row_of-row.new.segment
          here
          r.looked r.words c.row_of-row.result r.none r.allowed r.row);
      lists = rw (← c.self.view_is)
          (heap_lists here r.looked);
      queues = ap (λ h. h.queues) c.self.view_is;
      denied = r.none;
      allowed = r.allowed;
      live = shown_live w.number w.records w.shows w.steps g.met.S.SlotWords.fits c.args.policy.now
          c.args.actor c.args.place c.row_of-row.new.shown c.index_mut-segment.result.now
          c.row_of-row.result r.looked.shown r.allowed;
      row = rw (← c.self.view_is) (some_row _ (row_kept here r.looked r.words) c.row_of-row.result
          r.row);
      kept = rw (← c.self.view_is)
          (all_kept here r.looked r.words);
    }
