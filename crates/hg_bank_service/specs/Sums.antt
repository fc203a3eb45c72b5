-- What counts over all cores.
use Rattle.std.specs.Prelude.{◌≡◌, ℕ, ◌^◌, ◌<◌, ◌≤◌, List, Some, slice_get, slice_index, sum_by}
use Rattle.hg_hosted.specs.declared.worker.HostedWorker.{HostedWorker}
use Rattle.hg_hosted.specs.Charges.{charge_at}

-- what a tenant is charged with these workers, over all cores
abbrev pub charge_over : List HostedWorker → ℕ → ℕ
charge_over workers tenant = sum_by (λ worker. charge_at worker tenant) workers

-- the row has, by tenant, what counts over all cores, in each of which it is little
pub record AreSums (tenants : ℕ) (row : List ℕ) (workers : List HostedWorker) : Type 0 where
  pub each :
      (tenant : ℕ) → tenant < tenants → slice_index row tenant ≡ charge_over workers tenant
  pub few :
      (core : ℕ) (worker : HostedWorker) → slice_get workers core ≡ Some worker
      → (tenant : ℕ) → tenant < tenants → charge_at worker tenant ≤ 2 ^ 35
