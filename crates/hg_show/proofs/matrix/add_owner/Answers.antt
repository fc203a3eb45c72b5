use Rattle.std.proofs.Common.{◌≡◌, true, sym, ◌∙◌}
use Rattle.hg_show.specs.Bands.{is_full}
use Rattle.hg_show.proofs.BandTexts.{full_text}
use Rattle.hg_show.proofs.matrix.add_owner.Goals as goal

pub returns-in_ok-begin_band : goal.returns-in_ok-begin_band
returns-in_ok-begin_band c =
    let policy = c.args.policy.now in
    let band = c.args.band.now.items in
    let full : is_full policy band c.args.owner ≡ true = rw c.as_slice.ensures.value at (sym c.is_full.ensures ∙ c.if-is_full.true) in
    λ owners. rw c.in_ok-begin_band.ensures.band
    (full_text policy band c.args.owner owners c.args.out.now.items c.begin_band.new.out.items full c.in_ok-begin_band.ensures.text)
