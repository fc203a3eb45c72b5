use Rattle.std.proofs.Common.{◌≡◌, ◌+◌, ◌≤◌, Some, length, arith, refl}
use Rattle.std.specs.Box.{boxed_slice_items}
use Rattle.hg_segment.specs.Kept.{class_at}
use Rattle.hg_segment.proofs.KeptBlocks.{class_there, class_read, any_page}
use Rattle.hg_segment.proofs.ReadMany.{block_in_words}
use Rattle.hg_segment.proofs.WrittenMany.{Writes, writes_many, block_after, others_after}
use Rattle.hg_segment.proofs.segment.Segment.write_words.Given.{Over}
use Rattle.hg_segment.proofs.segment.Segment.write_words.Goals as goal

pub unreachable-requires : goal.unreachable-requires
unreachable-requires g c =
    class_there _ _ _ _ _ _ c.args.page c.args.index c.self.invariant c.requires.page
    c.requires.index (rw (← c.self.view_is) at c.requires.open) c.get.result c.get.ensures
    c.in_default.is

pub copy_in-requires : goal.copy_in-requires
copy_in-requires g c =
    let class : class_at c.self.inside.classes c.args.page ≡ Some c.in-Some.class =
    class_read _ c.args.page c.in-Some.class c.get.result c.get.ensures c.in-Some.is in
    let inside : c.args.at + length c.args.from.now ≤ c.in-Some.class =
    (rw (← c.self.view_is) at c.requires.inside) c.in-Some.class class in
    omega (
      arith,
      c.start.ensures,
      inside,
      block_in_words _ _ _ _ _ _ c.args.page c.args.index c.in-Some.class
          (any_page _ _ _ _ _ _ c.self.invariant) c.self.invariant c.requires.page
          c.requires.index (rw (← c.self.view_is) at c.requires.open) class,
    )

-- what was written
wrote : (g : Over) (c : goal.After-copy_in g)
    → Writes c.self.inside.greatest (g.S.SlotWords.records c.self.inside.slots)
    (boxed_slice_items c.self.inside.pages) c.self.inside.classes c.self.inside.charges
    c.args.page c.args.index c.args.at c.args.from.now c.self.inside.memory c.copy_in.new.self
wrote g c =
    let class : class_at c.self.inside.classes c.args.page ≡ Some c.in-Some.class =
    class_read _ c.args.page c.in-Some.class c.get.result c.get.ensures c.in-Some.is in
    rw c.copy_in.ensures.words
    (writes_many _ _ _ _ _ c.args.page c.args.index c.in-Some.class
    (any_page _ _ _ _ _ _ c.self.invariant) c.requires.page c.requires.index
    (rw (← c.self.view_is) at c.requires.open) class c.args.from.now c.self.inside.memory
    _ c.args.at (omega (arith, c.start.ensures))
    ((rw (← c.self.view_is) at c.requires.inside) c.in-Some.class class) c.self.invariant)

pub invariant_of-self : goal.invariant_of-self
invariant_of-self g c = (wrote g c).right

pub returns-clause-written : goal.returns-clause-written
returns-clause-written g c =
    rw (← c.self.view_is)
    (block_after _ _ c.args.page c.args.index c.args.at c.args.from.now _ _ (wrote g c).run)

pub returns-clause-others : goal.returns-clause-others
returns-clause-others g c =
    rw (← c.self.view_is)
    (others_after _ _ c.args.page c.args.index c.args.at c.args.from.now _ _ (wrote g c).run)

pub returns-clause-rest : goal.returns-clause-rest
returns-clause-rest g c = rw (← c.self.view_is, (wrote g c).lists) refl

pub returns-clause-run : goal.returns-clause-run
returns-clause-run g c = rw (← c.self.view_is) (wrote g c).run
