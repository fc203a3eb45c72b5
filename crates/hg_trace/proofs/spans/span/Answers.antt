use Rattle.std.proofs.Common.{◌≡◌, arith}
use Rattle.hg_trace.proofs.WordSpans.{is_next}
use Rattle.hg_trace.proofs.spans.span.Goals as goal

pub overflow_add-behind : goal.overflow_add-behind
overflow_add-behind c =
    let next = is_next c.args.text.now c.loop-before._before c.loop-before.behind c.first_word-start.result.0 c.first_word-start.result.1 c.loop-before.invariant.within c.loop-before.invariant.rest c.loop-before.invariant.joined c.first_word-start.ensures.start c.first_word-start.ensures.width in
    omega (arith, next.within)

pub overflow_add-behind-in-loop-before : goal.overflow_add-behind-in-loop-before
overflow_add-behind-in-loop-before c =
    let next = is_next c.args.text.now c.loop-before._before c.loop-before.behind c.first_word-start.result.0 c.first_word-start.result.1 c.loop-before.invariant.within c.loop-before.invariant.rest c.loop-before.invariant.joined c.first_word-start.ensures.start c.first_word-start.ensures.width in
    omega (arith, next.within)

pub loop-before-preserved : goal.loop-before-preserved
loop-before-preserved c =
    let next = is_next c.args.text.now c.loop-before._before c.loop-before.behind c.first_word-start.result.0 c.first_word-start.result.1 c.loop-before.invariant.within c.loop-before.invariant.rest c.loop-before.invariant.joined c.first_word-start.ensures.start c.first_word-start.ensures.width in
    record { within = next.within; rest = next.rest; joined = next.joined }

pub overflow_add-result : goal.overflow_add-result
overflow_add-result c =
    let next = is_next c.args.text.now c.loop-before._before c.loop-before.behind c.first_word-start-2.result.0 c.first_word-start-2.result.1 c.loop-before.invariant.within c.loop-before.invariant.rest c.loop-before.invariant.joined c.first_word-start-2.ensures.start c.first_word-start-2.ensures.width in
    omega (arith, next.within)

pub returns : goal.returns
returns c =
    let next = is_next c.args.text.now c.loop-before._before c.loop-before.behind c.first_word-start-2.result.0 c.first_word-start-2.result.1 c.loop-before.invariant.within c.loop-before.invariant.rest c.loop-before.invariant.joined c.first_word-start-2.ensures.start c.first_word-start-2.ensures.width in
    let all : c.loop-before._before ≡ c.args.number = omega arith in
    rw all at next.stands
