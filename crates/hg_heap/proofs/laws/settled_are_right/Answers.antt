use Rattle.hg_heap.proofs.Witnessed.{settled_are_right as law}
use Rattle.hg_heap.proofs.laws.settled_are_right.Goals as goal

pub returns : goal.returns
returns g c =
    let w = g.S.SlotWords in
    let m = g.met.S.SlotWords in
    law w.number w.records w.shows m.sized m.sane m.fits
