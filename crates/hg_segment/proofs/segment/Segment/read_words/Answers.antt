use Rattle.std.proofs.Common.{◌≡◌, ◌+◌, ◌≤◌, Some, length, arith}
use Rattle.hg_segment.specs.Kept.{class_at}
use Rattle.hg_segment.proofs.KeptBlocks.{class_there, class_read, any_page}
use Rattle.hg_segment.proofs.ReadMany.{block_in_words, range_of_block}
use Rattle.hg_segment.proofs.segment.Segment.read_words.Goals as goal

pub unreachable-requires : goal.unreachable-requires
unreachable-requires g c = class_there _ _ _ _ _ _ c.args.page c.args.index c.self.invariant c.requires.page c.requires.index (rw (← c.self.view_is) at c.requires.open) c.get.result c.get.ensures c.in_default.is

pub copy_out-requires : goal.copy_out-requires
copy_out-requires g c =
    let class : class_at c.self.inside.classes c.args.page ≡ Some c.in-Some.class = class_read _
    c.args.page c.in-Some.class c.get.result c.get.ensures c.in-Some.is in
    let inside : c.args.at + length c.args.into.now ≤ c.in-Some.class =
    (rw (← c.self.view_is) at c.requires.inside) c.in-Some.class class in
    omega (
      arith,
      c.start.ensures,
      inside,
      block_in_words _ _ _ _ _ _ c.args.page c.args.index c.in-Some.class
          (any_page _ _ _ _ _ _ c.self.invariant) c.self.invariant c.requires.page c.requires.index
          (rw (← c.self.view_is) at c.requires.open) class,
    )

pub returns : goal.returns
returns g c = λ k lt.
    let class : class_at c.self.inside.classes c.args.page ≡ Some c.in-Some.class = class_read _
    c.args.page c.in-Some.class c.get.result c.get.ensures c.in-Some.is in
    rw (← c.self.view_is, c.copy_out.ensures, c.start.ensures)
    (range_of_block _ _ _ _ _ _ c.args.page c.args.index c.in-Some.class
    (any_page _ _ _ _ _ _ c.self.invariant) c.self.invariant c.requires.page c.requires.index
    (rw (← c.self.view_is) at c.requires.open) class c.args.at (length c.args.into.now) k
    ((rw (← c.self.view_is) at c.requires.inside) c.in-Some.class class) lt)
