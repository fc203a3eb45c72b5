use Rattle.std.proofs.Common.{◌≤◌, ◌+◌, ◌^◌, arith}
use Rattle.std.proofs.lemmas.Nat.{one_shl}
use Rattle.std.proofs.Math.Pow.{pow_mono}
use Rattle.hg_mask.proofs.run.Goals as goal

pub overflow_sub-result : goal.overflow_sub-result
overflow_sub-result c =
    let a = one_shl c.args.from 32 (omega (arith, c.requires.within)) in
    let b = one_shl (c.args.from + c.args.count) 32 (omega (arith, c.requires.within)) in
    let up : 2 ^ c.args.from ≤ 2 ^ (c.args.from + c.args.count) = pow_mono (omega arith) in
    omega (arith, a, b, up)
