-- Which places a list of Frees, in rising order, hasn't come to yet.
use Rattle.std.specs.Prelude.{◌≡◌, ℕ, ◌≤◌, length}
use Rattle.hg_machine.specs.State.{State, record_at}

-- the same policy, holders and number of places, and from this place on the same records
pub record IsSameFrom (s t : State) (first : ℕ) : Type 0 where
  pub policy : t.policy ≡ s.policy
  pub holders : t.holders ≡ s.holders
  pub places : length t.records ≡ length s.records
  pub records : (place : ℕ) → first ≤ place → record_at t place ≡ record_at s place
