use Rattle.std.proofs.Common.{◌≡◌, length, filter, ap, subst, ◌∙◌, arith}
use Rattle.std.specs.List.{range_with_len}
use Rattle.hg_machine.specs.Holders.{holds}
use Rattle.hg_state.proofs.Texts.{filtered_more}
use Rattle.hg_state.proofs.workers.held_by.Goals as goal

pub loop-segment-preserved : goal.loop-segment-preserved
loop-segment-preserved c =
    filtered_more (holds c.args.core.now.state c.args.worker) c.loop-segment.segment c.holds.result c.loop-segment.held.items c.push_kept.new.numbers.items
    c.loop-segment.invariant c.holds.ensures c.in_ok-push_kept.ensures

pub returns : goal.returns
returns c =
    let count = c.segments-segment-end.ensures.segments ∙ ap (λ p. length p.segments) c.policy.ensures.value in
    let ends : c.loop-segment.segment ≡ length c.args.core.now.state.policy.segments = omega (arith, c.loop-segment-test.false, c.loop-segment.auto.segment-end, count) in
    subst (λ n. c.loop-segment.held.items ≡ filter (holds c.args.core.now.state c.args.worker) (range_with_len 0 n)) ends c.loop-segment.invariant
