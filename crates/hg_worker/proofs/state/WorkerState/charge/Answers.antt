use Rattle.std.proofs.Common.{◌<◌, arith, inl, inr}
use Rattle.std.proofs.lemmas.Bool.{cases_lt}
use Rattle.hg_worker.proofs.Charging.{charge_few}
use Rattle.hg_worker.proofs.state.WorkerState.charge.Goals as goal

pub returns-clause-few : goal.returns-clause-few
returns-clause-few c =
    let few = charge_few c.args.self.now.heap.segments c.args.tenant
    (record { each = c.settled.ensures.each; once = c.settled.ensures.once }) in
    elim (cases_lt c.args.tenant 64) [
      | inl less ↦ (let is = c.charge.ensures.counted less in omega (arith, few, is))
      | inr past ↦ (let is = c.charge.ensures.nobody (λ less. omega (arith, less, past)) in
          omega (arith, is))
    ]
