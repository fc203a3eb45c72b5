use Rattle.std.proofs.Common.{◌≡◌, ◌≤◌, ◌+◌, ℕ, ◌∙◌, sym, ap, arith, length}
use Rattle.hg_place.specs.declared.Right.TheVariants as right
use Rattle.hg_heap.proofs.Looking.{looked_of, open_after}
use Rattle.hg_heap.proofs.Reached.{denied_by, allowed_by}
use Rattle.hg_heap.proofs.ReadMany.{reads_denied, reads_outside, reads_inside}
use Rattle.hg_heap.proofs.many.copy_words.Goals as goal

pub returns-in-Denied-clause-read : goal.returns-in-Denied-clause-read
returns-in-Denied-clause-read g c = let w = g.S.SlotWords in let l = c.look-word.ensures in (
  c.look-word.result,
  looked_of w.number w.records w.shows w.steps c.args.handle.place c.look-word.result
      c.args.segment.now c.look-word.new.self l.shown l.step l.number l.records l.others,
  reads_denied _ c.in-Denied.rule _ _ _
      (denied_by _ c.in-Denied.rule (sym c.in-Denied.is ∙ c.judge.ensures)) c.requires.some,
)

pub returns-clause-read : goal.returns-clause-read
returns-clause-read g c = let w = g.S.SlotWords in let l = c.look-word.ensures in (
  c.look-word.result,
  looked_of w.number w.records w.shows w.steps c.args.handle.place c.look-word.result
      c.args.segment.now c.look-word.new.self l.shown l.step l.number l.records l.others,
  reads_inside _ _ c.args.first c.args.room.now c.min-count.result c.end_of_block.result
      c.read_words.new.into (allowed_by _ (sym c.in_default.is ∙ c.judge.ensures))
      c.end_of_block.ensures.done c.end_of_block.ensures.end c.end_of_block.ensures.outside
      (omega (
        arith,
        c.min-count.ensures,
        c.from-2.ensures,
        c.size_of-size.ensures.words,
        c.from.ensures,
        c.if-first-from.false,
      ))
      (λ lt. omega (
        arith,
        lt,
        c.min-count.ensures,
        c.from-2.ensures,
        c.size_of-size.ensures.words,
        c.from.ensures,
        c.if-first-from.false,
      )) c.read_words.auto.into c.read_words.ensures,
)
