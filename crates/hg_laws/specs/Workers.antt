-- What a step of one worker leaves to the others.
use Rattle.std.specs.Prelude.{◌≡◌, ◌≢◌, ◌⊎◌, ℕ, ◌<◌, false, length, Some}
use Rattle.hg_place.specs.declared.Actor.{Actor}
use Rattle.hg_place.specs.declared.Handle.{Handle}
use Rattle.hg_place.specs.Places.{number_of, page_number, segment_of, segment_of_page}
use Rattle.hg_machine.specs.declared.Event.{Event}
use Rattle.hg_machine.specs.declared.Event.TheVariants as event
use Rattle.hg_machine.specs.declared.Answer.{Answer}
use Rattle.hg_machine.specs.declared.Answer.TheVariants as answer
use Rattle.hg_machine.specs.State.{State, record_at, class_at, hand_of}
use Rattle.hg_machine.specs.Holders.{holds}
use Rattle.hg_machine.specs.Changes.{part}
use Rattle.hg_machine.specs.Room.{is_open_to}
use Rattle.hg_machine.specs.Request.{size_of}
use Rattle.hg_machine.specs.Soundness.{IsSound}
use Rattle.hg_machine.specs.Steps.{Step}

-- the place was parted, and the event is a Free of it that was answered so
abbrev pub IsParting : State → ℕ → Event → Answer → State → Type 0
IsParting s place (event.Free actor handle) a new =
    (number_of handle.place ≡ place)
    × (a ≡ answer.Parted)
    × ((record_at new place).generation ≡ (record_at s place).generation)
    × ((record_at new place).life ≡ part (record_at s place).life)
IsParting s place event a new = ⊥

-- other workers have the same in hand and hold the same; of a segment that the worker doesn't hold
-- the classes stay, and so does each record but of a block that it parts
pub record LeavesOthers (s : State) (w : ℕ) (e : Event) (a : Answer) (new : State) : Type 0 where
  pub hands : (other : ℕ) → other ≢ w → hand_of new other ≡ hand_of s other
  pub holding : (other segment : ℕ) → other ≢ w
      → holds new other segment ≡ holds s other segment
  pub classes : (page : ℕ) → holds s w (segment_of_page page) ≡ false
      → class_at new page ≡ class_at s page
  pub records : (place : ℕ) → holds s w (segment_of place) ≡ false
      → (record_at new place ≡ record_at s place) ⊎ IsParting s place e a new

-- each step of a worker does
abbrev pub WorkersKeepApart : Type 0
WorkersKeepApart =
    (old : State) (worker : ℕ) (event : Event) (answer : Answer) (new : State)
    → IsSound old
    → Step old worker event answer new
    → LeavesOthers old worker event answer new

-- a page without the class is given one only where no page that has it has room
abbrev pub NewPagesComeLast : Type 0
NewPagesComeLast =
    (old : State) (worker : ℕ) (actor : Actor) (arena bytes : ℕ) (handle : Handle) (new : State)
    (place : ℕ)
    → Step old worker (event.Alloc actor arena bytes) (answer.Block handle) new
    → class_at old (page_number handle.place) ≢ Some (size_of bytes)
    → place < length old.records
    → is_open_to old worker arena (size_of bytes) (Some (size_of bytes)) place ≡ false
