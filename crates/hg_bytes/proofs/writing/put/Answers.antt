use Rattle.std.proofs.Common.{rules, arith, inl}
use Rattle.hg_bytes.proofs.writing.put.Goals as goal

pub returns-in_default : goal.returns-in_default
returns-in_default g c = record {
  put = record {
    whole = λ all. absurd (omega (arith, all, c.if-piece-eq8.false));
    part = λ few. inl (search rules, c.read.ensures.does);
  };
  still = c.read.ensures.still;
}
