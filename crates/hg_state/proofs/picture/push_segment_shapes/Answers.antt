use Rattle.std.proofs.Common.{◌≡◌, length, ap, ◌∙◌, arith}
use Rattle.hg_state.specs.Pictures.{segment_shape}
use Rattle.hg_text.proofs.Texts.{numbers_more, numbers_all}
use Rattle.hg_state.proofs.picture.push_segment_shapes.Goals as goal

pub loop-segment-preserved : goal.loop-segment-preserved
loop-segment-preserved c =
    numbers_more (segment_shape c.args.drawing c.args.core.now.state) c.loop-segment.segment c.args.out.now.items c.loop-segment.out.items c.push_segment_shape.new.out.items c.loop-segment.invariant c.in_ok-push_segment_shape.ensures

pub returns : goal.returns
returns c =
    let count = c.segments-segment-end.ensures.segments ∙ ap (λ p. length p.segments) c.policy.ensures.value in
    let ends : c.loop-segment.segment ≡ length c.args.core.now.state.policy.segments = omega (arith, c.loop-segment-test.false, c.loop-segment.auto.segment-end, count) in
    numbers_all (segment_shape c.args.drawing c.args.core.now.state) c.loop-segment.segment _ c.args.out.now.items c.loop-segment.out.items ends c.loop-segment.invariant
