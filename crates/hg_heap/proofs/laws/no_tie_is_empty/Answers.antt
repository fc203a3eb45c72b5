use Rattle.hg_heap.proofs.Witnessed.{no_tie_is_empty as law}
use Rattle.hg_heap.proofs.laws.no_tie_is_empty.Goals as goal

pub returns : goal.returns
returns g c =
    let w = g.S.SlotWords in
    let m = g.met.S.SlotWords in
    law w.number w.records w.shows m.sized m.sane m.fits
