-- What a worker's calls do that need what is behind a lock, where that is there.
use Rattle.std.specs.Prelude.{◌≡◌, ◌≢◌, ◌↔◌, ℕ, true, false, None, Some}
use Rattle.hg_machine.specs.Policy.{arena_of}
use Rattle.hg_machine.specs.declared.Answer.{Answer}
use Rattle.hg_machine.specs.declared.Answer.TheVariants as answer
use Rattle.hg_heap.specs.Held.{is_held, segment_in}
use Rattle.hg_service.specs.Behind.{Abandons, Delivers, Refills, Takes}
use Rattle.hg_worker.specs.declared.state.WorkerState.{WorkerState}
use Rattle.hg_worker.specs.Seats.{number_in, records_in, part_of_seat, seat_shows, seat_steps}
use Rattle.hg_worker.specs.Workers.{had_in}
use Rattle.hg_hosted.specs.States.{Keeps, LeavesLives, SendsNoneHome, StaysUnseen}

-- what is in hand goes to a list
pub record Sends (result : Answer) (old new : WorkerState) : Type 0 where
  pub sent : Delivers old.hand result new.hand
  pub empty : result ≡ answer.NothingInHand ↔ old.hand ≡ None
  pub heap : new.heap ≡ old.heap
  pub seats : StaysUnseen old new
  pub home : SendsNoneHome old new
  pub rest : (new.policy ≡ old.policy) × (new.number ≡ old.number)

-- what was sent to a segment that is held comes home
pub record TakesIn (segment : ℕ) (result : Answer) (old new : WorkerState) : Type 0 where
  pub taken : Takes number_in records_in seat_shows seat_steps segment result old.heap new.heap
  pub unheld : result ≡ answer.NotHeld ↔ is_held number_in old.heap.segments segment ≡ false
  pub own : new.seat ≡ old.seat
  pub lives : LeavesLives old new
  pub rest : Keeps old new

-- a segment of the arena comes from the pool
pub record TakesOne (arena : ℕ) (result : Answer) (old new : WorkerState) : Type 0 where
  pub refilled :
      Refills number_in records_in part_of_seat old.policy arena result (had_in old) (had_in new)
  pub came :
      (segment : ℕ) → result ≡ answer.Refilled segment
      → (arena_of old.policy segment ≡ Some arena)
      × (is_held number_in old.heap.segments segment ≡ false)
      × (is_held number_in new.heap.segments segment ≡ true)
  pub lives : LeavesLives old new
  pub home : SendsNoneHome old new
  pub rest : Keeps old new

-- a segment that is held goes to the pool
pub record GivesUp (segment : ℕ) (result : Answer) (old new : WorkerState) : Type 0 where
  pub abandoned : Abandons number_in segment result old.heap new.heap
  pub unheld : result ≡ answer.NotHeld ↔ is_held number_in old.heap.segments segment ≡ false
  pub gone : is_held number_in new.heap.segments segment ≡ false
  pub others :
      (other : ℕ) → other ≢ segment
      → segment_in number_in new.heap.segments other ≡ segment_in number_in old.heap.segments other
  pub own : new.seat ≡ old.seat
  pub lives : LeavesLives old new
  pub home : SendsNoneHome old new
  pub rest : Keeps old new

-- nothing changes
abbrev pub Stays : WorkerState → WorkerState → Type 0
Stays old new = new ≡ old
