use Rattle.std.proofs.Common.{◌+◌, ◌-◌, ◌<◌, ◌++◌, length, sym, ap, ◌∙◌, arith}
use Rattle.std.specs.List.{range_with_len}
use Rattle.hg_show.specs.Bands.{bands_from}
use Rattle.hg_show.specs.Matrix.{bands_text}
use Rattle.hg_show.proofs.BandTexts.{range_next}
use Rattle.hg_show.proofs.matrix.push_bands.Goals as goal

pub loop-owner-preserved : goal.loop-owner-preserved
loop-owner-preserved c =
    let policy = c.args.policy.now in
    let n = length policy.tenants in
    let owner = c.loop-owner.owner in
    let below : owner < n = omega (arith, c.loop-owner-test.true, c.tenants-owner-end.ensures.tenants) in
    c.in_ok-add_owner.ensures (range_with_len (owner + 1) (n - (owner + 1)))
    ∙ ap (λ owners. c.loop-owner.out.items ++ bands_text policy (bands_from policy c.loop-owner.band.items owners)) (sym (range_next owner n below))
    ∙ c.loop-owner.invariant
