use Rattle.std.proofs.Common.{◌≡◌, ap, ◌∙◌, arith, count_by}
use Rattle.std.specs.List.{range_with_len}
use Rattle.hg_machine.specs.Sweeps.{is_sent}
use Rattle.hg_state.proofs.Texts.{counted_more}
use Rattle.hg_state.proofs.sent.count_sent.Goals as goal

pub overflow_add-count : goal.overflow_add-count
overflow_add-count c = omega (arith, c.loop-at.invariant.few, c.bit-count.ensures.few)

pub loop-at-preserved : goal.loop-at-preserved
loop-at-preserved c =
    let s = c.args.core.now.state in
    record {
      counted =
          counted_more (is_sent s) c.args.first c.loop-at.at c.loop-at.count c.bit-count.result c.is_sent.result c.loop-at.invariant.counted
          (c.is_sent.ensures ∙ ap (is_sent s) c.place_at-place.ensures.number)
          c.bit-count.ensures.bit;
      few = omega (arith, c.loop-at.invariant.few, c.bit-count.ensures.few);
    }

pub returns : goal.returns
returns c =
    let all : c.loop-at.at ≡ c.args.many = omega arith in
    c.loop-at.invariant.counted
    ∙ ap (λ n. count_by (is_sent c.args.core.now.state) (range_with_len c.args.first n)) all
