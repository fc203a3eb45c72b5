use Rattle.std.proofs.Common.{arith, w16}
use Rattle.std.proofs.lemmas.Nat.Bits.{bit_at-trailing_zeros}
use Rattle.hg_mask.proofs.lowest.Goals as goal

pub returns-clause-first : goal.returns-clause-first
returns-clause-first c =
    let low = bit_at-trailing_zeros w16 c.args.marks (omega (arith, c.if-marks-eq0.false)) c.ranges.marks.fits in
    record { low = low.0; marked = low.1; least = low.2 }
