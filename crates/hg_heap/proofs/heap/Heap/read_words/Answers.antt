use Rattle.std.proofs.Common.{ap}
use Rattle.hg_heap.proofs.Founds.{found_of}
use Rattle.hg_heap.proofs.Judging.{all_kept}
use Rattle.hg_heap.proofs.Looking.{heap_lists, heap_right}
use Rattle.hg_heap.proofs.ReadMany.{many_end}
use Rattle.hg_heap.proofs.Letting.{lets_look}
use Rattle.hg_heap.proofs.heap.Heap.read_words.Goals as goal

pub copy_words-far-requires-clause-allowed : goal.copy_words-far-requires-clause-allowed
copy_words-far-requires-clause-allowed g c =
    let w = g.S.SlotWords in
    let here = found_of w.number c.self.inside.segments.items c.args.handle.place.segment c.in-Some.found
    c.index_mut-segment.result.now (rw (← c.self.view_is) at c.in-Some.ensures.some)
    c.index_mut-segment.ensures.value in
    lets_look w.number w.shows w.allows c.self.inside.segments.items c.args.handle.place c.in-Some.found
    c.index_mut-segment.result.now here (rw (← c.self.view_is) at c.requires.allowed)

pub invariant_of-self : goal.invariant_of-self
invariant_of-self g c =
    let w = g.S.SlotWords in
    let here = found_of w.number c.self.inside.segments.items c.args.handle.place.segment
    c.in-Some.found c.index_mut-segment.result.now
    (rw (← c.self.view_is) at c.in-Some.ensures.some)
    c.index_mut-segment.ensures.value in
    let r = c.copy_words-far.ensures.read in
    let s = c.settled.ensures in
    heap_right here r.1 _ _ _ _ c.self.invariant
    (record {
      lists = s.lists;
      sizes = s.sizes;
      runs = s.runs;
      bounded = s.bounded;
      opened = s.open;
      listed = s.listed;
      blocks = s.blocks;
      pages = s.all.0;
      classes = s.all.1;
      words = s.all.2;
    })

pub returns : goal.returns
returns g c =
    let w = g.S.SlotWords in
    let here = found_of w.number c.self.inside.segments.items c.args.handle.place.segment
    c.in-Some.found c.index_mut-segment.result.now
    (rw (← c.self.view_is) at c.in-Some.ensures.some)
    c.index_mut-segment.ensures.value in
    let r = c.copy_words-far.ensures.read in record {
      ties = rw (← c.self.view_is)
          (many_end w.number w.records w.shows w.steps g.met.S.SlotWords.fits c.args.policy.now
          c.self.inside.segments.items c.in-Some.found r.0 c.args.first c.args.actor c.args.handle
          c.index_mut-segment.result.now c.copy_words-far.new.segment here r.1
          c.copy_words-far.ensures.words c.args.room.now c.copy_words-far.new.room
          c.copy_words-far.result r.2);
      end = r.2.end;
      rest = r.2.rest;
      lists = rw (← c.self.view_is)
          (heap_lists here r.1);
      queues = ap (λ h. h.queues) c.self.view_is;
      kept = rw (← c.self.view_is)
          (all_kept here r.1 c.copy_words-far.ensures.words);
    }
