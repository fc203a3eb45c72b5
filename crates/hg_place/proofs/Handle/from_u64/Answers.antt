use Rattle.std.proofs.Common.{arith}
use Rattle.hg_place.proofs.WordReads.{ReadsWord-of}
use Rattle.hg_place.proofs.Handle.from_u64.Goals as goal

pub returns-clause-read : goal.returns-clause-read
returns-clause-read c = let number = c.place_at-place.ensures.number in ReadsWord-of _ c.args.word (omega arith) (omega arith)
