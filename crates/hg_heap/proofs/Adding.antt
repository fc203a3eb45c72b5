-- Charges that are changed, tenant by tenant.
use Rattle.std.proofs.Common.{◌≡◌, ℕ, ◌<◌, ◌≤◌, List, length, slice_index}
use Rattle.hg_segment.specs.declared.charges.TheConstants.{TENANTS}

-- what becomes of a tenant's charge
module _ (change : ℕ → ℕ → ℕ) where
  -- those of the tenants below so many
  pub record AreChanged (n : ℕ) (old new : List ℕ) : Type 0 where
    pub all : length new ≡ TENANTS
    pub changed : (tenant : ℕ) → tenant < n → slice_index new tenant ≡ change tenant
        (slice_index old tenant)
    pub left : (tenant : ℕ) → n ≤ tenant → slice_index new tenant ≡ slice_index old tenant
