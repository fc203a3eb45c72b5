-- What a heap's places count against a tenant's limit.
use Rattle.std.specs.Prelude.{ℕ, List, sum_by}
use Rattle.hg_place.specs.declared.standing.Standing.{Standing}
use Rattle.hg_segment.specs.Kept.{Kept}
use Rattle.hg_segment.specs.Charges.{charge_of}

module _ {S : Type 0} (records : S → List Standing) where
  -- in bytes, over all segments that are held, of whatever arena
  abbrev pub charge_in : List (Kept S) → ℕ → ℕ
  charge_in segments tenant = sum_by (λ k. charge_of (records k.slots) k.classes tenant) segments
