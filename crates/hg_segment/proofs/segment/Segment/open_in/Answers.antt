use Rattle.std.proofs.Common.{◌≡◌, ap, arith}
use Rattle.hg_segment.proofs.KeptBlocks.{class_read}
use Rattle.hg_segment.proofs.WentOut.{small, vacant, low, fits, pops_shown, outward}
use Rattle.hg_segment.proofs.segment.Segment.open_in.Goals as goal

pub invariant_of-place : goal.invariant_of-place
invariant_of-place g c = record {
  segment_below = omega (arith, c.segment.ensures, g.met.S.SlotWords.numbered c.self.inside.slots);
  page_below = c.requires.page;
  index_below = small _ _ _ _ _ _ _ _ _ _ _ _ c.self.invariant c.requires.page (g.met.S.SlotWords.sized c.self.inside.slots)
      (class_read _ c.args.page c.in-Some.class c.get.result c.get.ensures c.in-Some.is)
      c.index_mut-lists.ensures.value c.in-Some-pop_refilled.ensures.linked c.in-Some-pop_refilled.ensures.some c.in-Some-pop_refilled.ensures.others c.in-Some-pop_refilled.ensures.shape;
}

pub open-handle-requires-clause-unworn : goal.open-handle-requires-clause-unworn
open-handle-requires-clause-unworn g c = omega (
  arith,
  c.self.ranges,
  low _ _ _ _ _ _ _ _ _ _ _ _ c.self.invariant c.requires.page (g.met.S.SlotWords.sized c.self.inside.slots)
      (class_read _ c.args.page c.in-Some.class c.get.result c.get.ensures c.in-Some.is)
      c.index_mut-lists.ensures.value c.in-Some-pop_refilled.ensures.linked c.in-Some-pop_refilled.ensures.some c.in-Some-pop_refilled.ensures.others c.in-Some-pop_refilled.ensures.shape,
)

pub open-handle-requires-clause-allowed : goal.open-handle-requires-clause-allowed
open-handle-requires-clause-allowed g c = λ word shown. (rw (← c.self.view_is) at c.requires.allowed) c.in-Some-pop_refilled.index word _
    (small _ _ _ _ _ _ _ _ _ _ _ _ c.self.invariant c.requires.page (g.met.S.SlotWords.sized c.self.inside.slots)
    (class_read _ c.args.page c.in-Some.class c.get.result c.get.ensures c.in-Some.is)
    c.index_mut-lists.ensures.value c.in-Some-pop_refilled.ensures.linked c.in-Some-pop_refilled.ensures.some c.in-Some-pop_refilled.ensures.others c.in-Some-pop_refilled.ensures.shape)
    (pops_shown _ _ _ _ _ _ _ _ _ _ _ _ c.self.invariant c.requires.page (g.met.S.SlotWords.sized c.self.inside.slots)
    (class_read _ c.args.page c.in-Some.class c.get.result c.get.ensures c.in-Some.is)
    c.index_mut-lists.ensures.value c.in-Some-pop_refilled.ensures.linked c.in-Some-pop_refilled.ensures.some c.in-Some-pop_refilled.ensures.others c.in-Some-pop_refilled.ensures.shape) shown

pub zero-requires : goal.zero-requires
zero-requires g c = omega (
  arith,
  c.start.ensures,
  c.block_words.ensures.value,
  c.requires.page,
  fits _ _ _ _ _ _ _ _ _ _ _ _ c.self.invariant c.requires.page (g.met.S.SlotWords.sized c.self.inside.slots)
      (class_read _ c.args.page c.in-Some.class c.get.result c.get.ensures c.in-Some.is)
      c.index_mut-lists.ensures.value c.in-Some-pop_refilled.ensures.linked c.in-Some-pop_refilled.ensures.some c.in-Some-pop_refilled.ensures.others c.in-Some-pop_refilled.ensures.shape,
)

pub raise-requires-clause-room : goal.raise-requires-clause-room
raise-requires-clause-room g c = omega (
  arith,
  (outward _ _ _ _ _ _ _ _ _ _ c.in-Some-pop_refilled.index _ _ _ _ _ _ _ _ c.self.invariant c.requires.page (g.met.S.SlotWords.sized c.self.inside.slots)
      (class_read _ c.args.page c.in-Some.class c.get.result c.get.ensures c.in-Some.is)
      c.index_mut-lists.ensures.value c.in-Some-pop_refilled.ensures.linked c.in-Some-pop_refilled.ensures.some c.in-Some-pop_refilled.ensures.others c.in-Some-pop_refilled.ensures.shape
      c.requires.owner c.open-handle.ensures.generation c.open-handle.ensures.records c.zero.ensures.all c.zero.ensures.zero c.zero.ensures.others c.start.ensures c.block_words.ensures.value c.block_bytes.ensures).room,
)

pub invariant_of-self : goal.invariant_of-self
invariant_of-self g c = rw c.raise.ensures ((outward _ _ _ _ _ _ _ _ _ _ c.in-Some-pop_refilled.index _ _ _ _ _ _ _ _ c.self.invariant c.requires.page (g.met.S.SlotWords.sized c.self.inside.slots)
    (class_read _ c.args.page c.in-Some.class c.get.result c.get.ensures c.in-Some.is)
    c.index_mut-lists.ensures.value c.in-Some-pop_refilled.ensures.linked c.in-Some-pop_refilled.ensures.some c.in-Some-pop_refilled.ensures.others c.in-Some-pop_refilled.ensures.shape
    c.requires.owner c.open-handle.ensures.generation c.open-handle.ensures.records c.zero.ensures.all c.zero.ensures.zero c.zero.ensures.others c.start.ensures c.block_words.ensures.value c.block_bytes.ensures).right)

pub returns-clause-vacant : goal.returns-clause-vacant
returns-clause-vacant g c = let e : c.open-handle.result.place.index ≡ c.in-Some-pop_refilled.index = ap (λ p. p.index) c.open-handle.ensures.place in
    rw (e, ← c.self.view_is) (vacant _ _ _ _ _ _ _ _ _ _ _ _ c.self.invariant c.requires.page (g.met.S.SlotWords.sized c.self.inside.slots)
    (class_read _ c.args.page c.in-Some.class c.get.result c.get.ensures c.in-Some.is)
    c.index_mut-lists.ensures.value c.in-Some-pop_refilled.ensures.linked c.in-Some-pop_refilled.ensures.some c.in-Some-pop_refilled.ensures.others c.in-Some-pop_refilled.ensures.shape)

pub returns-clause-step : goal.returns-clause-step
returns-clause-step g c = let e : c.open-handle.result.place.index ≡ c.in-Some-pop_refilled.index = ap (λ p. p.index) c.open-handle.ensures.place in
    rw (e, ← c.self.view_is) c.open-handle.ensures.step

pub returns-clause-popped : goal.returns-clause-popped
returns-clause-popped g c = let e : c.open-handle.result.place.index ≡ c.in-Some-pop_refilled.index = ap (λ p. p.index) c.open-handle.ensures.place in
    rw (e, ← c.self.view_is) (outward _ _ _ _ _ _ _ _ _ _ c.in-Some-pop_refilled.index _ _ _ _ _ _ _ _ c.self.invariant c.requires.page (g.met.S.SlotWords.sized c.self.inside.slots)
    (class_read _ c.args.page c.in-Some.class c.get.result c.get.ensures c.in-Some.is)
    c.index_mut-lists.ensures.value c.in-Some-pop_refilled.ensures.linked c.in-Some-pop_refilled.ensures.some c.in-Some-pop_refilled.ensures.others c.in-Some-pop_refilled.ensures.shape
    c.requires.owner c.open-handle.ensures.generation c.open-handle.ensures.records c.zero.ensures.all c.zero.ensures.zero c.zero.ensures.others c.start.ensures c.block_words.ensures.value c.block_bytes.ensures).popped

pub returns-clause-lists : goal.returns-clause-lists
returns-clause-lists g c = rw (← c.self.view_is) (outward _ _ _ _ _ _ _ _ _ _ c.in-Some-pop_refilled.index _ _ _ _ _ _ _ _ c.self.invariant c.requires.page (g.met.S.SlotWords.sized c.self.inside.slots)
    (class_read _ c.args.page c.in-Some.class c.get.result c.get.ensures c.in-Some.is)
    c.index_mut-lists.ensures.value c.in-Some-pop_refilled.ensures.linked c.in-Some-pop_refilled.ensures.some c.in-Some-pop_refilled.ensures.others c.in-Some-pop_refilled.ensures.shape
    c.requires.owner c.open-handle.ensures.generation c.open-handle.ensures.records c.zero.ensures.all c.zero.ensures.zero c.zero.ensures.others c.start.ensures c.block_words.ensures.value c.block_bytes.ensures).lists

pub returns-clause-zero : goal.returns-clause-zero
returns-clause-zero g c = let e : c.open-handle.result.place.index ≡ c.in-Some-pop_refilled.index = ap (λ p. p.index) c.open-handle.ensures.place in
    rw (e, ← c.self.view_is) (outward _ _ _ _ _ _ _ _ _ _ c.in-Some-pop_refilled.index _ _ _ _ _ _ _ _ c.self.invariant c.requires.page (g.met.S.SlotWords.sized c.self.inside.slots)
    (class_read _ c.args.page c.in-Some.class c.get.result c.get.ensures c.in-Some.is)
    c.index_mut-lists.ensures.value c.in-Some-pop_refilled.ensures.linked c.in-Some-pop_refilled.ensures.some c.in-Some-pop_refilled.ensures.others c.in-Some-pop_refilled.ensures.shape
    c.requires.owner c.open-handle.ensures.generation c.open-handle.ensures.records c.zero.ensures.all c.zero.ensures.zero c.zero.ensures.others c.start.ensures c.block_words.ensures.value c.block_bytes.ensures).zeroed

pub returns-clause-others : goal.returns-clause-others
returns-clause-others g c = let e : c.open-handle.result.place.index ≡ c.in-Some-pop_refilled.index = ap (λ p. p.index) c.open-handle.ensures.place in
    rw (e, ← c.self.view_is) (outward _ _ _ _ _ _ _ _ _ _ c.in-Some-pop_refilled.index _ _ _ _ _ _ _ _ c.self.invariant c.requires.page (g.met.S.SlotWords.sized c.self.inside.slots)
    (class_read _ c.args.page c.in-Some.class c.get.result c.get.ensures c.in-Some.is)
    c.index_mut-lists.ensures.value c.in-Some-pop_refilled.ensures.linked c.in-Some-pop_refilled.ensures.some c.in-Some-pop_refilled.ensures.others c.in-Some-pop_refilled.ensures.shape
    c.requires.owner c.open-handle.ensures.generation c.open-handle.ensures.records c.zero.ensures.all c.zero.ensures.zero c.zero.ensures.others c.start.ensures c.block_words.ensures.value c.block_bytes.ensures).blocks
