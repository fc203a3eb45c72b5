use Rattle.std.proofs.Common.{◌≡◌, ◌∙◌, sym, ap, arith, subst, List, length, slice_set}
use Rattle.hg_place.specs.declared.Right.TheVariants as right
use Rattle.hg_place.specs.declared.standing.Standing.{Standing}
use Rattle.hg_segment.specs.Kept.{Kept}
use Rattle.hg_segment.specs.Blocks.{block_at, KeepsOtherBlocks}
use Rattle.hg_heap.proofs.OpenBlocks.{same_size}
use Rattle.hg_heap.proofs.Looking.{looked_of, wrote_of, open_after}
use Rattle.hg_heap.proofs.Reached.{denied_by, allowed_by, reached_denied, reached_outside}
use Rattle.hg_heap.proofs.Reached.{reached_inside}
use Rattle.hg_heap.proofs.reading.write_word.Goals as goal

pub size_of-requires-clause-open : goal.size_of-requires-clause-open
size_of-requires-clause-open g c = let w = g.S.SlotWords in let l = c.look-word.ensures in
    open_after g.met.S.SlotWords.fits c.args.policy.now c.args.actor.0 right.Write c.args.handle
    (looked_of w.number w.records w.shows w.steps c.args.handle.place c.look-word.result
    c.args.segment.now c.look-word.new.self l.shown l.step l.number l.records l.others) (allowed_by
    _ (sym c.in_default.is ∙ c.judge.ensures))

pub write-requires-clause-open : goal.write-requires-clause-open
write-requires-clause-open g c = let w = g.S.SlotWords in let l = c.look-word.ensures in
    open_after g.met.S.SlotWords.fits c.args.policy.now c.args.actor.0 right.Write c.args.handle
    (looked_of w.number w.records w.shows w.steps c.args.handle.place c.look-word.result
    c.args.segment.now c.look-word.new.self l.shown l.step l.number l.records l.others) (allowed_by
    _ (sym c.in_default.is ∙ c.judge.ensures))

pub write-requires-clause-inside : goal.write-requires-clause-inside
write-requires-clause-inside g c size e =
    same_size _ c.size_of.result size c.args.index c.size_of.ensures.class
    (omega (arith, c.from.ensures, c.if-index-from.false)) e

pub returns-in-Denied : goal.returns-in-Denied
returns-in-Denied g c = let w = g.S.SlotWords in let l = c.look-word.ensures in record {
  wrote = (
    c.look-word.result,
    looked_of w.number w.records w.shows w.steps c.args.handle.place c.look-word.result
        c.args.segment.now c.look-word.new.self l.shown l.step l.number l.records l.others,
    reached_denied _ c.in-Denied.rule
        _ _ _ (denied_by _ c.in-Denied.rule (sym c.in-Denied.is ∙ c.judge.ensures)),
  );
  err = ap (λ (k : Kept g.row.S.Denot). k.words) l.others;
  ok = tt;
  others = tt;
}

pub returns-then-index-from : goal.returns-then-index-from
returns-then-index-from g c = let w = g.S.SlotWords in let l = c.look-word.ensures in record {
  wrote = (
    c.look-word.result,
    looked_of w.number w.records w.shows w.steps c.args.handle.place c.look-word.result
        c.args.segment.now c.look-word.new.self l.shown l.step l.number l.records l.others,
    reached_outside _ _ c.args.index _ (allowed_by _ (sym c.in_default.is ∙ c.judge.ensures))
        (omega (
          arith,
          c.from.ensures,
          c.size_of.ensures.words,
          c.if-index-from.true,
          ap
              (λ (k : Kept g.row.S.Denot). length
              (block_at k.words k.classes c.args.handle.place.page c.args.handle.place.index))
              l.others,
        )),
  );
  err = ap (λ (k : Kept g.row.S.Denot). k.words) l.others;
  ok = tt;
  others = tt;
}

pub returns : goal.returns
returns g c = let w = g.S.SlotWords in let l = c.look-word.ensures in record {
  wrote = (
    c.look-word.result,
    wrote_of w.number w.records w.shows w.steps c.args.handle.place c.look-word.result
        c.args.segment.now c.look-word.new.self c.write.new.self
        (looked_of w.number w.records w.shows w.steps c.args.handle.place c.look-word.result
        c.args.segment.now c.look-word.new.self l.shown l.step l.number l.records l.others)
        c.write.ensures.rest,
    reached_inside _ _ c.args.index _ (allowed_by _ (sym c.in_default.is ∙ c.judge.ensures))
        (omega (
          arith,
          c.from.ensures,
          c.size_of.ensures.words,
          c.if-index-from.false,
          ap
              (λ (k : Kept g.row.S.Denot). length
              (block_at k.words k.classes c.args.handle.place.page c.args.handle.place.index))
              l.others,
        )),
  );
  err = tt;
  ok = subst (λ (k : Kept g.row.S.Denot). block_at c.write.new.self.words k.classes
      c.args.handle.place.page c.args.handle.place.index ≡ slice_set
      (block_at k.words k.classes c.args.handle.place.page c.args.handle.place.index) c.args.index
      c.args.value) l.others c.write.ensures.written;
  others = subst (λ (rs : List Standing). KeepsOtherBlocks rs c.args.segment.now.classes
      c.args.handle.place.page c.args.handle.place.index c.args.segment.now.words
      c.write.new.self.words) l.records
      (subst (λ (k : Kept g.row.S.Denot). KeepsOtherBlocks (w.records c.look-word.new.self.slots)
      k.classes c.args.handle.place.page c.args.handle.place.index k.words
      c.write.new.self.words) l.others c.write.ensures.others);
}
