use Rattle.std.proofs.Common.{◌≡◌, ◌+◌, ◌<◌, ◌≤◌, ℕ, slice_index}
use Rattle.hg_machine.specs.Charge.{charge}
use Rattle.hg_bank.proofs.sums.deposit.Given as goal

abbrev pub invariant-loop-tenant : goal.invariant-loop-tenant
invariant-loop-tenant l = record {
  done : (t : ℕ) → t < l.tenant
      → slice_index l.row t ≡ slice_index l.fn.row t + charge l.core.state l.worker t;
  left : (t : ℕ) → l.tenant ≤ t → slice_index l.row t ≡ slice_index l.fn.row t;
}
