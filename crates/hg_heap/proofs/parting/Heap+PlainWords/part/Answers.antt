use Rattle.std.proofs.Common.{sym}
use Rattle.hg_segment.specs.Parted.{plain_number}
use Rattle.hg_heap.proofs.Founds.{found_of, number_is}
use Rattle.hg_heap.proofs.PartCall.{part_lists, part_right, part_parted, part_other}
use Rattle.hg_heap.proofs.parting.Heap+PlainWords.part.Goals as goal

pub part-parted-requires-clause-segment : goal.part-parted-requires-clause-segment
part-parted-requires-clause-segment c =
    sym (number_is plain_number c.self.inside.segments.items c.args.place.segment c.in-Some.found
    c.index_mut-segment.result.now
    (found_of plain_number c.self.inside.segments.items c.args.place.segment c.in-Some.found
    c.index_mut-segment.result.now (rw (← c.self.view_is) at c.in-Some.ensures.some)
    c.index_mut-segment.ensures.value))

pub invariant_of-self : goal.invariant_of-self
invariant_of-self c = let s = c.settled.ensures in
    part_right c.self.inside.segments.items c.in-Some.found c.args.expected c.args.place
    c.index_mut-segment.result.now c.part-parted.new.self
    (found_of plain_number c.self.inside.segments.items c.args.place.segment c.in-Some.found
    c.index_mut-segment.result.now (rw (← c.self.view_is) at c.in-Some.ensures.some)
    c.index_mut-segment.ensures.value)
    c.part-parted.result c.part-parted.ensures.parted c.part-parted.ensures.other
    _ _ _ _ c.self.invariant
    (record {
      lists = s.lists;
      sizes = s.sizes;
      runs = s.runs;
      bounded = s.bounded;
      opened = s.open;
      listed = s.listed;
      blocks = s.blocks;
      pages = s.all.0;
      classes = s.all.1;
      words = s.all.2;
    })

pub returns-clause-parted : goal.returns-clause-parted
returns-clause-parted c = rw (← c.self.view_is)
    (part_parted c.self.inside.segments.items c.in-Some.found c.args.expected c.args.place
    c.index_mut-segment.result.now c.part-parted.new.self
    (found_of plain_number c.self.inside.segments.items c.args.place.segment c.in-Some.found
    c.index_mut-segment.result.now (rw (← c.self.view_is) at c.in-Some.ensures.some)
    c.index_mut-segment.ensures.value)
    c.part-parted.result c.part-parted.ensures.parted)

pub returns-clause-err : goal.returns-clause-err
returns-clause-err c = rw (← c.self.view_is)
    (part_other c.self.inside.segments.items c.in-Some.found c.args.expected c.args.place
    c.index_mut-segment.result.now c.part-parted.new.self
    (found_of plain_number c.self.inside.segments.items c.args.place.segment c.in-Some.found
    c.index_mut-segment.result.now (rw (← c.self.view_is) at c.in-Some.ensures.some)
    c.index_mut-segment.ensures.value)
    c.part-parted.result c.part-parted.ensures.other)

pub returns-clause-lists : goal.returns-clause-lists
returns-clause-lists c = rw (← c.self.view_is)
    (part_lists c.self.inside.segments.items c.in-Some.found c.args.expected c.args.place
    c.index_mut-segment.result.now c.part-parted.new.self
    (found_of plain_number c.self.inside.segments.items c.args.place.segment c.in-Some.found
    c.index_mut-segment.result.now (rw (← c.self.view_is) at c.in-Some.ensures.some)
    c.index_mut-segment.ensures.value)
    c.part-parted.result c.part-parted.ensures.parted c.part-parted.ensures.other)
