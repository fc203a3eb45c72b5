-- The seat of a segment in a table of one run: what its steps may leave, and what they do.
use Rattle.std.specs.Prelude.{◌≡◌, ℕ, ◌+◌, ◌-◌, ◌*◌, ◌≤◌, [], ◌∷◌, ◌++◌, take, drop, length}
use Rattle.std.specs.Prelude.{false}
use Rattle.hg_machine.specs.Policy.{Policy}
use Rattle.hg_place.specs.declared.geometry.TheConstants.{SEGMENT_PLACES}
use Rattle.hg_table.specs.View.{part_of}
use Rattle.hg_table.specs.Seats.{word_at, HasStepped, HaveMet}
use Rattle.hg_run_table.specs.declared.table.RunSeat.{RunSeat}
use Rattle.hg_run_table.specs.Asked.{MayLeave, HasLeft, is_asked}
use Rattle.hg_run_table.specs.Found.{IsFound}

-- the number of a place, by its segment and its number in it
abbrev pub place_at : ℕ → ℕ → ℕ
place_at segment slot = segment * SEGMENT_PLACES + slot

-- a step at a place of the segment, which finds the one word, may leave the other: it answers what a
-- worker of the seat is asked, or none is asked anything and the word stays
abbrev pub SeatMayLeave : Policy → ℕ → RunSeat → ℕ → ℕ → ℕ → Type 0
SeatMayLeave policy segment seat slot found left =
    MayLeave policy (place_at segment slot) found left seat.seat.me.0.run

-- no worker of the seat is asked anything
abbrev pub IsQuiet : RunSeat → Type 0
IsQuiet seat = is_asked seat.seat.me.0.run ≡ false

-- The seat has made a step at a place: of words and lives it knows what the step did, what was asked
-- is answered there, and it is of its table still; some state that agreed with its parts of the run showed the
-- word that was found
pub record StepsIn (segment slot found left : ℕ) (old new : RunSeat) : Type 0 where
  pub step :
      HasStepped (part_of old.seat.me.0.lives) (word_at segment slot) found left
      (part_of new.seat.me.0.lives)
  pub answered :
      HasLeft (place_at segment slot) found left old.seat.me.0.run new.seat.me.0.run
  pub agreed : IsFound (place_at segment slot) found old.seat.me.0.run
  pub same : new.seat.table_id ≡ old.seat.table_id

-- A seat of its table that has one part of the run, and nothing of words and lives, may be lent to it. (A
-- worker's seat that a table opens with has to be cut first.)
pub record MayLend (seat other : RunSeat) : Type 0 where
  pub same : other.seat.table_id ≡ seat.seat.table_id
  pub one : length other.seat.me.0.run ≡ 1
  pub bare : other.seat.me.0.lives ≡ []

-- the part of the other stands behind those of the seat
pub record HasLent (old other new : RunSeat) : Type 0 where
  pub same : new.seat.table_id ≡ old.seat.table_id
  pub lives : new.seat.me.0.lives ≡ old.seat.me.0.lives
  pub run : new.seat.me.0.run ≡ old.seat.me.0.run ++ other.seat.me.0.run

-- a seat has its segment's part of the run, and one that was lent to it
abbrev pub HasLoan : RunSeat → Type 0
HasLoan seat = 2 ≤ length seat.seat.me.0.run

-- The last part of the run is in the other seat, which has nothing of words and lives
pub record HasGivenBack (old other new : RunSeat) : Type 0 where
  pub same : new.seat.table_id ≡ old.seat.table_id
  pub same_other : other.seat.table_id ≡ old.seat.table_id
  pub lives : new.seat.me.0.lives ≡ old.seat.me.0.lives
  pub run : new.seat.me.0.run ≡ take (length old.seat.me.0.run - 1) old.seat.me.0.run
  pub bare : other.seat.me.0.lives ≡ []
  pub given : other.seat.me.0.run ≡ drop (length old.seat.me.0.run - 1) old.seat.me.0.run

-- a seat may meet another of its table that has one part of words and lives, and none of the run
pub record MayMeet (seat other : RunSeat) : Type 0 where
  pub same : other.seat.table_id ≡ seat.seat.table_id
  pub one : other.seat.me.0.lives ≡ part_of other.seat.me.0.lives ∷ []
  pub bare : other.seat.me.0.run ≡ []

-- The two have met at a place: each has seen the word, is of its table still, and has one part of words and
-- lives; of the run the seat has what it had, and the other nothing
pub record MeetIn (segment slot word : ℕ) (one other one' other' : RunSeat) : Type 0 where
  pub met :
      HaveMet (word_at segment slot) word (part_of one.seat.me.0.lives)
      (part_of other.seat.me.0.lives) (part_of one'.seat.me.0.lives)
      (part_of other'.seat.me.0.lives)
  pub same : one'.seat.table_id ≡ one.seat.table_id
  pub same_other : other'.seat.table_id ≡ other.seat.table_id
  pub one_part : other'.seat.me.0.lives ≡ part_of other'.seat.me.0.lives ∷ []
  pub run : one'.seat.me.0.run ≡ one.seat.me.0.run
  pub bare : other'.seat.me.0.run ≡ []
