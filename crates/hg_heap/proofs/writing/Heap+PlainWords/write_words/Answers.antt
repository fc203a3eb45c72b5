use Rattle.std.proofs.Common.{◌∙◌, sym, ap}
use Rattle.hg_place.specs.Plain.{plain_records}
use Rattle.hg_segment.specs.Parted.{plain_number}
use Rattle.hg_heap.specs.Settled.{IsSettled}
use Rattle.hg_heap.proofs.Founds.{Found, found_of, number_is}
use Rattle.hg_heap.proofs.Looking.{heap_right}
use Rattle.hg_heap.proofs.WriteRun.{last_looked, copied_run, copied_next}
use Rattle.hg_heap.proofs.writing.Heap+PlainWords.write_words.Goals as goal

here : (c : goal.After-self-1) → Found plain_number c.self.inside.segments.items
    c.args.handle.place.segment c.in-Some.found c.index_mut-segment.result.now
here c =
    found_of plain_number c.self.inside.segments.items c.args.handle.place.segment
    c.in-Some.found c.index_mut-segment.result.now (rw (← c.self.view_is) at c.in-Some.ensures.some)
    c.index_mut-segment.ensures.value

pub copy_in-far-requires-clause-segment : goal.copy_in-far-requires-clause-segment
copy_in-far-requires-clause-segment c =
    number_is plain_number c.self.inside.segments.items c.args.handle.place.segment
    c.in-Some.found c.index_mut-segment.result.now
    (found_of plain_number c.self.inside.segments.items c.args.handle.place.segment
    c.in-Some.found c.index_mut-segment.result.now (rw (← c.self.view_is) at c.in-Some.ensures.some)
    c.index_mut-segment.ensures.value)

-- the segment that was written to
own : (c : goal.After-self-1) → IsSettled plain_records c.copy_in-far.new.segment
own c = let s = c.settled.ensures in record {
  lists = s.lists;
  sizes = s.sizes;
  runs = s.runs;
  bounded = s.bounded;
  opened = s.open;
  listed = s.listed;
  blocks = s.blocks;
  pages = s.all.0;
  classes = s.all.1;
  words = s.all.2;
}

pub invariant_of-self : goal.invariant_of-self
invariant_of-self c =
    heap_right (here c)
    (last_looked c.args.policy.now c.in-Some.found c.args.first c.args.actor c.args.handle
    c.args.words.now c.self.inside.segments.items c.index_mut-segment.result.now
    c.copy_in-far.new.segment c.copy_in-far.result (here c) c.copy_in-far.ensures)
    _ _ _ _ c.self.invariant (own c)

pub returns-clause-run : goal.returns-clause-run
returns-clause-run c = rw (← c.self.view_is)
    (copied_run c.args.policy.now c.in-Some.found c.args.first c.args.actor c.args.handle
    c.args.words.now c.self.inside.segments.items c.index_mut-segment.result.now
    c.copy_in-far.new.segment c.copy_in-far.result (here c) c.copy_in-far.ensures
    c.self.invariant.settled (own c))

pub returns-clause-next : goal.returns-clause-next
returns-clause-next c =
    copied_next c.args.policy.now c.in-Some.found c.args.first c.args.actor c.args.handle
    c.args.words.now c.self.inside.segments.items c.index_mut-segment.result.now
    c.copy_in-far.new.segment c.copy_in-far.result (here c) c.copy_in-far.ensures
    c.self.invariant.settled (own c)

pub returns-clause-end : goal.returns-clause-end
returns-clause-end c = c.copy_in-far.ensures.end

pub returns-clause-queues : goal.returns-clause-queues
returns-clause-queues c = ap (λ h. h.queues) c.self.view_is
