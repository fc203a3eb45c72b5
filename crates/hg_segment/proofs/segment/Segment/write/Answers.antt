use Rattle.std.proofs.Common.{arith, refl}
use Rattle.hg_segment.proofs.KeptBlocks.{class_there, class_read, any_page}
use Rattle.hg_segment.proofs.Written.{in_words, right, lists, written, blocks}
use Rattle.hg_segment.proofs.segment.Segment.write.Goals as goal

pub unreachable-requires : goal.unreachable-requires
unreachable-requires g c = class_there _ _ _ _ _ _ c.args.page c.args.index c.self.invariant c.requires.page c.requires.index (rw (← c.self.view_is) at c.requires.open) c.get.result c.get.ensures c.in_default.is

pub overflow_add-from : goal.overflow_add-from
overflow_add-from g c = omega (
  arith,
  c.start-from.ensures,
  in_words _ _ _ _ _ _ c.args.page c.args.index c.in-Some.class c.args.at (any_page _ _ _ _ _ _ c.self.invariant) c.self.invariant c.requires.page c.requires.index (rw (← c.self.view_is) at c.requires.open)
      (class_read _ c.args.page c.in-Some.class c.get.result c.get.ensures c.in-Some.is) ((rw (← c.self.view_is) at c.requires.inside) c.in-Some.class (class_read _ c.args.page c.in-Some.class c.get.result c.get.ensures c.in-Some.is)),
)

pub set-requires : goal.set-requires
set-requires g c = omega (
  arith,
  c.start-from.ensures,
  in_words _ _ _ _ _ _ c.args.page c.args.index c.in-Some.class c.args.at (any_page _ _ _ _ _ _ c.self.invariant) c.self.invariant c.requires.page c.requires.index (rw (← c.self.view_is) at c.requires.open)
      (class_read _ c.args.page c.in-Some.class c.get.result c.get.ensures c.in-Some.is) ((rw (← c.self.view_is) at c.requires.inside) c.in-Some.class (class_read _ c.args.page c.in-Some.class c.get.result c.get.ensures c.in-Some.is)),
)

pub invariant_of-self : goal.invariant_of-self
invariant_of-self g c = rw (c.set.ensures.words, c.start-from.ensures) (right _ _ _ _ _ _ c.args.page c.args.index c.in-Some.class c.args.at (any_page _ _ _ _ _ _ c.self.invariant) c.self.invariant c.requires.page c.requires.index (rw (← c.self.view_is) at c.requires.open)
    (class_read _ c.args.page c.in-Some.class c.get.result c.get.ensures c.in-Some.is) ((rw (← c.self.view_is) at c.requires.inside) c.in-Some.class (class_read _ c.args.page c.in-Some.class c.get.result c.get.ensures c.in-Some.is)) c.args.value)

pub returns-clause-written : goal.returns-clause-written
returns-clause-written g c = rw (← c.self.view_is, c.set.ensures.words, c.start-from.ensures) (written _ _ _ _ _ _ c.args.page c.args.index c.in-Some.class c.args.at (any_page _ _ _ _ _ _ c.self.invariant) c.self.invariant c.requires.page c.requires.index (rw (← c.self.view_is) at c.requires.open)
    (class_read _ c.args.page c.in-Some.class c.get.result c.get.ensures c.in-Some.is) ((rw (← c.self.view_is) at c.requires.inside) c.in-Some.class (class_read _ c.args.page c.in-Some.class c.get.result c.get.ensures c.in-Some.is)) c.args.value)

pub returns-clause-others : goal.returns-clause-others
returns-clause-others g c = rw (← c.self.view_is, c.set.ensures.words, c.start-from.ensures) (blocks _ _ _ _ _ _ c.args.page c.args.index c.in-Some.class c.args.at (any_page _ _ _ _ _ _ c.self.invariant) c.self.invariant c.requires.page c.requires.index (rw (← c.self.view_is) at c.requires.open)
    (class_read _ c.args.page c.in-Some.class c.get.result c.get.ensures c.in-Some.is) ((rw (← c.self.view_is) at c.requires.inside) c.in-Some.class (class_read _ c.args.page c.in-Some.class c.get.result c.get.ensures c.in-Some.is)) c.args.value)

pub returns-clause-rest : goal.returns-clause-rest
returns-clause-rest g c = rw (
  ← c.self.view_is,
  c.set.ensures.words,
  c.start-from.ensures,
  lists _ _ _ _ _ _ c.args.page c.args.index c.in-Some.class c.args.at (any_page _ _ _ _ _ _ c.self.invariant) c.self.invariant c.requires.page c.requires.index (rw (← c.self.view_is) at c.requires.open)
      (class_read _ c.args.page c.in-Some.class c.get.result c.get.ensures c.in-Some.is) ((rw (← c.self.view_is) at c.requires.inside) c.in-Some.class (class_read _ c.args.page c.in-Some.class c.get.result c.get.ensures c.in-Some.is)) c.args.value,
) refl
