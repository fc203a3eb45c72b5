-- What is sent to a segment is left there by each event that doesn't move it.
use Rattle.std.specs.Prelude.{◌≡◌, ℕ, ◌<◌, ◌==◌, Bool, true, false, Option, Some, None}
use Rattle.hg_place.specs.Places.{segment_of}
use Rattle.hg_machine.specs.declared.Event.{Event}
use Rattle.hg_machine.specs.declared.Event.TheVariants as event
use Rattle.hg_machine.specs.declared.Answer.{Answer}
use Rattle.hg_machine.specs.State.{State, record_at, hand_of}
use Rattle.hg_machine.specs.Sweeps.{is_sent_to}
use Rattle.hg_machine.specs.Soundness.{IsSound}
use Rattle.hg_machine.specs.Steps.{Step}

-- there is a place in hand, of this segment
abbrev pub is_of_segment : ℕ → Option ℕ → Bool
is_of_segment segment None = false
is_of_segment segment (Some place) = segment_of place == segment

-- the worker's event moves what is sent to the segment: it takes it in, or delivers a block of the
-- segment
abbrev pub moves_sent : State → ℕ → Event → ℕ → Bool
moves_sent s worker (event.Take taken) segment = taken == segment
moves_sent s worker event.Deliver segment = is_of_segment segment (hand_of s worker)
moves_sent s worker event segment = false

-- the same places are sent to the segment, each with the record that it had
pub record IsRemoteLeft (segment : ℕ) (old new : State) : Type 0 where
  pub sent : (place : ℕ) → is_sent_to new segment place ≡ is_sent_to old segment place
  pub records :
      (place : ℕ) → is_sent_to old segment place ≡ true → record_at new place ≡ record_at old place

-- each step whose event doesn't move it leaves what is sent to the segment
abbrev pub RemotesStay : Type 0
RemotesStay =
    (old : State) (worker : ℕ) (event : Event) (answer : Answer) (new : State) (segment : ℕ)
    → IsSound old → worker < old.policy.workers → moves_sent old worker event segment ≡ false
    → Step old worker event answer new → IsRemoteLeft segment old new
