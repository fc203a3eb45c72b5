use Rattle.std.proofs.Common.{refl}
use Rattle.hg_segment.proofs.Retirings.{class_some, page_read, home_idle, retiring}
use Rattle.hg_segment.proofs.segment.Segment.retire.Goals as goal

pub returns-then-not-is_idle-clause-stayed : goal.returns-then-not-is_idle-clause-stayed
returns-then-not-is_idle-clause-stayed g c _ = record {
  busy = rw (← c.self.view_is) (λ classed home. let yes = c.is_idle.ensures.1 (home_idle _ _ _ c.args.page _ c.index.result.now (page_read _ _ _ _ _ _ _ _ c.self.invariant c.requires c.index.ensures) home) in
      let no = c.if-not-is_idle.true in cc);
  same = refl;
}

pub invariant_of-self : goal.invariant_of-self
invariant_of-self g c = rw c.clear.ensures ((retiring _ _ _ _ _ _ _ _ _ _ c.self.invariant c.requires c.index.ensures (c.is_idle.ensures.0 c.if-not-is_idle.false) c.index_mut-lists.ensures.value c.retire.ensures.linked c.retire.ensures.retired c.retire.ensures.shape).right)

pub returns-clause-retired : goal.returns-clause-retired
returns-clause-retired g c _ = let it = (retiring _ _ _ _ _ _ _ _ _ _ c.self.invariant c.requires c.index.ensures (c.is_idle.ensures.0 c.if-not-is_idle.false) c.index_mut-lists.ensures.value c.retire.ensures.linked c.retire.ensures.retired c.retire.ensures.shape) in rw (← c.self.view_is) (record {
  classed = class_some c.self.inside.classes c.args.page c.get.result c.is_none.result c.get.ensures c.is_none.ensures c.if-is_none.false;
  idle = it.idle;
  changed = rw (c.clear.ensures, it.lists) refl;
})

pub clear-requires-clause-classed : goal.clear-requires-clause-classed
clear-requires-clause-classed g c = class_some c.self.inside.classes c.args.page c.get.result c.is_none.result c.get.ensures c.is_none.ensures c.if-is_none.false

pub clear-requires-clause-runs : goal.clear-requires-clause-runs
clear-requires-clause-runs g c = c.self.invariant.runs
