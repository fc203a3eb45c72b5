use Rattle.std.proofs.Common.{arith}
use Rattle.hg_segment.proofs.KeptBlocks.{class_there, class_read, any_page}
use Rattle.hg_segment.proofs.Written.{in_words}
use Rattle.hg_segment.proofs.segment.Segment.read.Goals as goal

pub unreachable-requires : goal.unreachable-requires
unreachable-requires g c = class_there _ _ _ _ _ _ c.args.page c.args.index c.self.invariant c.requires.page c.requires.index (rw (← c.self.view_is) at c.requires.open) c.get.result c.get.ensures c.in_default.is

pub overflow_add-start : goal.overflow_add-start
overflow_add-start g c = omega (
  arith,
  c.start.ensures,
  in_words _ _ _ _ _ _ c.args.page c.args.index c.in-Some.class c.args.at (any_page _ _ _ _ _ _ c.self.invariant) c.self.invariant c.requires.page c.requires.index (rw (← c.self.view_is) at c.requires.open)
      (class_read _ c.args.page c.in-Some.class c.get.result c.get.ensures c.in-Some.is) ((rw (← c.self.view_is) at c.requires.inside) c.in-Some.class (class_read _ c.args.page c.in-Some.class c.get.result c.get.ensures c.in-Some.is)),
)

pub get-requires-2 : goal.get-requires-2
get-requires-2 g c = omega (
  arith,
  c.start.ensures,
  in_words _ _ _ _ _ _ c.args.page c.args.index c.in-Some.class c.args.at (any_page _ _ _ _ _ _ c.self.invariant) c.self.invariant c.requires.page c.requires.index (rw (← c.self.view_is) at c.requires.open)
      (class_read _ c.args.page c.in-Some.class c.get.result c.get.ensures c.in-Some.is) ((rw (← c.self.view_is) at c.requires.inside) c.in-Some.class (class_read _ c.args.page c.in-Some.class c.get.result c.get.ensures c.in-Some.is)),
)
