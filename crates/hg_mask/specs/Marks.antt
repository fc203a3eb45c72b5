-- Marks of pages, one bit each.
use Rattle.std.specs.Prelude.{◌≡◌, ◌<◌, ◌+◌, ℕ}
use Rattle.std.specs.Int.{bit_at}

-- so many pages from one on are marked
abbrev pub IsRunOf : ℕ → ℕ → ℕ → Type 0
IsRunOf marks count page = (ahead : ℕ) → ahead < count → bit_at marks (page + ahead) ≡ 1

-- it is marked, and none before it
pub record IsFirstRun (marks page : ℕ) : Type 0 where
  pub low : page < 16
  pub marked : bit_at marks page ≡ 1
  pub least : (other : ℕ) → other < page → bit_at marks other ≡ 0
