use Rattle.std.proofs.Common.{◌+◌, length, length-append, ap, subst, sym, ◌∙◌, arith}
use Rattle.hg_close.specs.Rooms.{HasWords}
use Rattle.hg_close.proofs.Ready.{more_ready}
use Rattle.hg_close.proofs.opening.unused_words.Goals as goal

pub loop-segment-preserved : goal.loop-segment-preserved
loop-segment-preserved c =
    let before = c.loop-segment.invariant in
    let pushed = c.in_ok-push.ensures.items in
    record {
      all = ap length pushed ∙ length-append c.loop-segment.words.items _
          ∙ ap (λ n. n + 1) before.all;
      each = λ k lt. subst (λ ws. HasWords ws k) (sym pushed)
          (more_ready c.loop-segment.words.items c.loop-segment.segment c.in_ok-new.field-0
          before.all c.in_ok-new.ensures.number before.each k lt);
    }

pub returns : goal.returns
returns c =
    λ segment lt. c.loop-segment.invariant.each segment
    (omega (arith, lt, c.loop-segment-test.false))
