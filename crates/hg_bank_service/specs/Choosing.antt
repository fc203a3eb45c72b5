-- A search through the cores, one after the other.
use Rattle.std.specs.Prelude.{◌≡◌, ℕ, ◌<◌, ◌≤◌, List, Some, length, slice_get}
use Rattle.hg_hosted.specs.declared.worker.HostedWorker.{HostedWorker}
use Rattle.hg_bank_service.specs.Order.{turn}

-- those that come before this turn were each asked so, and the others are as they were
pub record AreAsked (Asked : HostedWorker → HostedWorker → Type 0) (current until : ℕ)
    (old new : List HostedWorker) : Type 0 where
  pub all : length new ≡ length old
  pub passed :
      (core : ℕ) (was next : HostedWorker) → slice_get old core ≡ Some was
      → slice_get new core ≡ Some next → turn current (length old) core < until → Asked was next
  pub others :
      (core : ℕ) → until ≤ turn current (length old) core
      → slice_get new core ≡ slice_get old core

-- a core serves so; those that come before it were each asked so, and the others are as they were
pub record IsServed (Asked Served : HostedWorker → HostedWorker → Type 0) (current core : ℕ)
    (old new : List HostedWorker) : Type 0 where
  pub was : HostedWorker
  pub next : HostedWorker
  pub there : slice_get old core ≡ Some was
  pub is : slice_get new core ≡ Some next
  pub served : Served was next
  pub all : length new ≡ length old
  pub passed :
      (other : ℕ) (was next : HostedWorker) → slice_get old other ≡ Some was
      → slice_get new other ≡ Some next
      → turn current (length old) other < turn current (length old) core → Asked was next
  pub others :
      (other : ℕ) → turn current (length old) core < turn current (length old) other
      → slice_get new other ≡ slice_get old other
