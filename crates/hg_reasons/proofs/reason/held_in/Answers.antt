use Rattle.std.proofs.Common.{◌≡◌, ℕ, Bool, ◌+◌, ◌-◌, ◌<◌, ◌&&◌, count_by, length, ap, sym, ◌∙◌, arith, []}
use Rattle.std.specs.List.{range_with_len}
use Rattle.hg_machine.specs.Holders.{holds, is_in_arena}
use Rattle.hg_reasons.proofs.Ranges.{count_left}
use Rattle.hg_reasons.proofs.reason.held_in.Goals as goal

pub loop-segment-preserved : goal.loop-segment-preserved
loop-segment-preserved c =
    let s = c.args.core.now.state in
    let i = c.loop-segment.segment in
    let n = length s.policy.segments in
    let p : ℕ → Bool = λ segment. holds s c.args.worker segment && is_in_arena s c.args.arena segment in
    let count = c.segments-segment-end.ensures.segments ∙ ap (λ p. length p.segments) c.policy.ensures.value in
    let test = c.loop-segment-test.true in
    let below : i < n = omega arith in
    let left = count_left p i n below in
    let one = c.held_one-held.ensures.counted in
    let all = c.loop-segment.invariant.all in
    let few = c.loop-segment.invariant.few in
    let most = c.held_one-held.ensures.few in
    record { all = omega (arith, left, one, all); few = omega (arith, few, most) }
