use Rattle.std.proofs.Common.{◌≡◌, ◌+◌, ◌^◌, ◌<◌, ◌≤◌, ℕ, slice_index}
use Rattle.hg_hosted.specs.Charges.{charge_at}
use Rattle.hg_bank_service.proofs.sums.deposit.Given as goal

abbrev pub invariant-loop-tenant : goal.invariant-loop-tenant
invariant-loop-tenant l = record {
  done : (t : ℕ) → t < l.tenant
      → slice_index l.row t ≡ slice_index l.fn.row t + charge_at l.worker t;
  few : (t : ℕ) → t < l.tenant → charge_at l.worker t ≤ 2 ^ 35;
  left : (t : ℕ) → l.tenant ≤ t → slice_index l.row t ≡ slice_index l.fn.row t;
}
