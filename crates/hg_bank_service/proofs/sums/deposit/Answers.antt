use Rattle.std.proofs.Common.{arith, below_more}
use Rattle.std.proofs.lemmas.Grind.{common_steps}
use Rattle.hg_bank_service.proofs.sums.deposit.Goals as goal

pub loop-tenant-preserved : goal.loop-tenant-preserved
loop-tenant-preserved c = record {
  done = grind (arith, common_steps);
  few = below_more _ _ c.loop-tenant.invariant.few
      (let few = c.charge.ensures.few in
      let is = c.charge.ensures.counted (omega arith) in
      omega arith);
  left = grind (arith, common_steps);
}
