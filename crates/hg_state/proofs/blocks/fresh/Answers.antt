use Rattle.std.proofs.Common.{◌≡◌, length, filter, ap, subst, ◌∙◌, arith}
use Rattle.std.specs.List.{range_with_len}
use Rattle.hg_state.specs.Blocks.{is_apart}
use Rattle.hg_state.proofs.Texts.{filtered_more}
use Rattle.hg_state.proofs.blocks.fresh.Goals as goal

pub loop-segment-preserved : goal.loop-segment-preserved
loop-segment-preserved c =
    filtered_more (is_apart c.args.core.now.state c.args.orphans.now) c.loop-segment.segment c.is_fresh.result c.loop-segment.fresh.items c.push_kept.new.numbers.items
    c.loop-segment.invariant c.is_fresh.ensures c.in_ok-push_kept.ensures

pub returns : goal.returns
returns c =
    let count = c.segments-segment-end.ensures.segments ∙ ap (λ p. length p.segments) c.policy.ensures.value in
    let ends : c.loop-segment.segment ≡ length c.args.core.now.state.policy.segments = omega (arith, c.loop-segment-test.false, c.loop-segment.auto.segment-end, count) in
    subst (λ n. c.loop-segment.fresh.items ≡ filter (is_apart c.args.core.now.state c.args.orphans.now) (range_with_len 0 n)) ends c.loop-segment.invariant
