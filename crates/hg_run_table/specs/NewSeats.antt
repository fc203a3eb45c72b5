-- The seats of a new table.
use Rattle.std.specs.Prelude.{◌≡◌, ℕ, ◌+◌, ◌*◌, ◌<◌, [], ◌∷◌, length}
use Rattle.atomic_table.specs.Seated.{TableId}
use Rattle.hg_place.specs.declared.geometry.TheConstants.{SEGMENT_PLACES}
use Rattle.hg_place.specs.declared.standing.Standing.TheVariants.{Home}
use Rattle.hg_place.specs.Standings.{standing_at}
use Rattle.hg_machine.specs.Policy.{Policy}
use Rattle.hg_roles.specs.FirstParts.{idle}
use Rattle.hg_roles.specs.Roles.{Role, of_worker, of_segment}
use Rattle.hg_table.specs.View.{View, blank, part_of}
use Rattle.hg_run_table.specs.declared.table.RunSeat.{RunSeat}
use Rattle.hg_run_table.specs.Calls.{IsWorkers, log_in}
use Rattle.hg_run_table.specs.JoinedCalls.{IsOthers}

-- a worker that has made no call
abbrev pub new_worker : Policy → ℕ → Role
new_worker policy number = of_worker (idle policy number) []

-- the worker of this number has made no call and holds nothing, and its seat knows nothing of words
-- and lives
pub record IsNewWorker (policy : Policy) (id : TableId) (number : ℕ) (seat : RunSeat)
    : Type 0 where
  pub same : seat.seat.table_id ≡ id
  pub worker : IsWorkers seat (idle policy number)
  pub no_call : log_in seat ≡ []
  pub lives : seat.seat.me.0.lives ≡ blank ∷ []

-- another part, whose seat has nothing of words and lives
pub record IsNewOther (id : TableId) (role : Role) (seat : RunSeat) : Type 0 where
  pub same : seat.seat.table_id ≡ id
  pub part : IsOthers seat role
  pub bare : seat.seat.me.0.lives ≡ []

-- the seat of a segment records all its places as home and never given out, and knows nothing else
pub record IsFresh (segment : ℕ) (lives : View) : Type 0 where
  pub one : lives ≡ part_of lives ∷ []
  pub seen : (part_of lives).seen ≡ []
  pub ended : (part_of lives).ended ≡ []
  pub first : (part_of lives).first ≡ segment * SEGMENT_PLACES + 1
  pub all : length (part_of lives).records ≡ SEGMENT_PLACES
  pub home : (k : ℕ) → k < SEGMENT_PLACES → standing_at (part_of lives).records k ≡ Home 0
  pub gives_none : (part_of lives).may_give ≡ 0

pub record IsNewSegment (id : TableId) (number : ℕ) (seat : RunSeat) : Type 0 where
  pub same : seat.seat.table_id ≡ id
  pub part : IsOthers seat (of_segment number)
  pub lives : IsFresh number seat.seat.me.0.lives
