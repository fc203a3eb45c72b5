-- Segments that a pool should have.
use Rattle.std.specs.Prelude.{ℕ, ◌<◌}
use Rattle.hg_pool.specs.Pooled.{Pooled, IsPooled}

module _ {S : Type 0} (number : S → ℕ) where
  -- it has all of so many
  abbrev pub HasAll : Pooled S → ℕ → Type 0
  HasAll pool count = (segment : ℕ) → segment < count → IsPooled number pool segment

  -- the lowest of so many that it hasn't
  pub record IsFirstMissing (pool : Pooled S) (count segment : ℕ) : Type 0 where
    pub below : segment < count
    pub missing : ¬ IsPooled number pool segment
    pub lower : HasAll pool segment
