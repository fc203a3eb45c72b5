-- Laws of pools.
use Rattle.std.specs.Prelude.{◌≡◌, ℕ, List}
use Rattle.hg_lists.specs.Inserts.{Inserts}
use Rattle.hg_segment.specs.Kept.{Kept}
use Rattle.hg_pool.specs.Pooled.{IsRising, numbers}

-- a segment that goes among others whose numbers rise has one place there
abbrev pub FreshHaveOnePlace : {S : Type 0} → (S → ℕ) → Type 0
FreshHaveOnePlace {S} number =
    (one : Kept S) (old new other : List (Kept S)) → Inserts one old new → Inserts one old other
    → IsRising (numbers number new) → IsRising (numbers number other) → new ≡ other
