-- Who can change a live block.
use Rattle.std.specs.Prelude.{◌≡◌, ◌≢◌, ◌⊎◌, ℕ, true, false, List, Some, All}
use Rattle.hg_place.specs.declared.Handle.{Handle}
use Rattle.hg_place.specs.declared.Right.{Right}
use Rattle.hg_place.specs.declared.Right.TheVariants as right
use Rattle.hg_place.specs.Places.{number_of, segment_of}
use Rattle.hg_machine.specs.declared.Event.{Event}
use Rattle.hg_machine.specs.declared.Event.TheVariants as event
use Rattle.hg_machine.specs.declared.Answer.{Answer}
use Rattle.hg_machine.specs.declared.Answer.TheVariants as answer
use Rattle.hg_machine.specs.Policy.{Policy, is_tenant, arena_of, lets}
use Rattle.hg_machine.specs.Life.{is_live, owner_of}
use Rattle.hg_machine.specs.State.{State, record_at}
use Rattle.hg_machine.specs.Denial.{is_admitted}
use Rattle.hg_machine.specs.Steps.{Run}
use Rattle.hg_laws.specs.Asked.{actor_of}
use Rattle.hg_laws.specs.Along.{AtSome}

-- the policy lets the actor use the right on this owner's blocks in this segment
pub record Permits (p : Policy) (segment owner actor : ℕ) (right : Right) : Type 0 where
  pub tenant : is_tenant p actor ≡ true
  pub admitted : is_admitted p (arena_of p segment) actor ≡ true
  pub allowed : lets p owner actor right ≡ true

-- the handle names this life of the place
pub record NamesLife (handle : Handle) (place generation : ℕ) : Type 0 where
  pub place_is : number_of handle.place ≡ place
  pub life_is : handle.generation ≡ generation

-- a served Free or Write of this life, by an actor whom the policy lets do that to blocks of its
-- owner
abbrev pub Touches : Policy → ℕ → ℕ → ℕ → Event → Answer → Type 0
Touches p place generation owner (event.Free actor handle) a =
    NamesLife handle place generation
    × Permits p (segment_of place) owner actor.0 right.Free
    × ((a ≡ answer.Done) ⊎ (a ≡ answer.Parted))
Touches p place generation owner (event.Write actor handle index value) a =
    NamesLife handle place generation
    × Permits p (segment_of place) owner actor.0 right.Write
    × (a ≡ answer.Done)
Touches p place generation owner event a = ⊥

-- the same of the block that the place has in a state
abbrev pub TouchesAt : State → ℕ → Event → Answer → Type 0
TouchesAt s place e a =
    let r = record_at s place in Touches s.policy place r.generation (owner_of r.life) e a

-- in a run a live block stays as it was, words and all, until someone does that
abbrev pub BlocksAreKept : Type 0
BlocksAreKept =
    (old : State) (events : List (ℕ × Event)) (answers : List Answer) (new : State) (place : ℕ)
    → is_live (record_at old place).life ≡ true
    → Run old events answers new
    → (record_at new place ≡ record_at old place)
    ⊎ AtSome (TouchesAt old place) events answers

-- the owner lets nobody else write or free its blocks
pub record LetsNobody (p : Policy) (owner : ℕ) : Type 0 where
  pub no_write : (actor : ℕ) → actor ≢ owner → lets p owner actor right.Write ≡ false
  pub no_free : (actor : ℕ) → actor ≢ owner → lets p owner actor right.Free ≡ false

-- so in a run of others' events each of its live blocks stays as it was
abbrev pub OthersChangeNothing : Type 0
OthersChangeNothing =
    (old : State) (events : List (ℕ × Event)) (answers : List Answer) (new : State) (place : ℕ)
    → is_live (record_at old place).life ≡ true
    → LetsNobody old.policy (owner_of (record_at old place).life)
    → All (λ e. actor_of e.1 ≢ Some (owner_of (record_at old place).life)) events
    → Run old events answers new
    → record_at new place ≡ record_at old place
