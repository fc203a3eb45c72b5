-- What a worker has is left to it by each step of another.
use Rattle.std.specs.Prelude.{◌≡◌, ◌≢◌, ℕ, Some}
use Rattle.hg_machine.specs.declared.Event.{Event}
use Rattle.hg_machine.specs.declared.Answer.{Answer}
use Rattle.hg_machine.specs.State.{State, record_at, hand_of}
use Rattle.hg_machine.specs.Held.{IsSameHeld, HeldDecides}
use Rattle.hg_machine.specs.Soundness.{IsSound}
use Rattle.hg_machine.specs.Steps.{Step}

-- A worker has the same in both states: it holds the same segments, with the same classes and
-- with records alike, and it has the same in hand, the block there as it was. So its tenants'
-- charges are the same, and so is its room
pub record IsLeftTo (worker : ℕ) (old new : State) : Type 0 where
  pub held : IsSameHeld old new worker
  pub hand : hand_of new worker ≡ hand_of old worker
  pub in_hand :
      (place : ℕ) → hand_of old worker ≡ Some place → record_at new place ≡ record_at old place
  pub decides : HeldDecides old new worker

-- each step of a worker leaves to each other what it has
abbrev pub OthersStay : Type 0
OthersStay =
    (old : State) (worker : ℕ) (event : Event) (answer : Answer) (new : State) (other : ℕ)
    → IsSound old → other ≢ worker → Step old worker event answer new → IsLeftTo other old new
