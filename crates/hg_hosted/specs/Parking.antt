-- What stands parked at a place, and what is known there.
use Rattle.std.specs.Prelude.{◌≡◌, List, [], ◌∷◌, Option, None, Some, MatchOption}
use Rattle.std.specs.Prelude.{Bool, true, false, is_some}
use Rattle.std.specs.List.{AllByRecursion}
use Rattle.atomic_table.specs.Seated.{TableId}
use Rattle.hg_machine.specs.Policy.{Policy}
use Rattle.hg_worker.specs.declared.state.WorkerState.{WorkerState}
use Rattle.hg_worker.specs.States.{IsNamed}
use Rattle.hg_hosted.specs.declared.of_service.Way.{Way}

-- what is known is the service of this policy and table
pub record KnowsName (policy : Policy) (table : TableId) (known : Option WorkerState) : Type 0 where
  pub some : is_some known ≡ true
  pub named : (of : WorkerState) → known ≡ Some of → IsNamed policy table of

module _ {T : Type 0} where
  abbrev pub way : Option WorkerState → Bool → List T → List T → Way T
  way known out taken parked =
      record { known = known; out = out; taken = taken; parked = parked }

  -- one comes to a place, who knows this, and has taken and parked nothing there
  abbrev pub came_to : Option WorkerState → Way T
  came_to known = way known false [] []

  -- one who took these there and parked these takes this part
  abbrev pub has_taken : Option WorkerState → List T → List T → T → Way T
  has_taken known taken parked part = way known true (part ∷ taken) parked

  -- or parks it
  abbrev pub has_parked : Option WorkerState → List T → List T → T → Way T
  has_parked known taken parked part = way known false taken (part ∷ parked)

  -- what a caller has taken there, where it asked for a part: first comes what it kept; else it may
  -- take one more
  abbrev pub HasTaken : Option T → Option T → List T → List T → Type 0
  HasTaken result (Some kept) old new = (result ≡ Some kept) × (new ≡ old)
  HasTaken None None old new = new ≡ old
  HasTaken (Some part) None old new = new ≡ part ∷ old

  module _ (of_service : WorkerState → T → Type 0) where
    -- the service that is known has this part
    abbrev pub FitsKnown : Option WorkerState → T → Type 0
    FitsKnown known part = (of : WorkerState) → known ≡ Some of → of_service of part

    -- and what a caller keeps of it, if anything
    abbrev pub FitsKept : Option WorkerState → Option T → Type 0
    FitsKept known kept = (part : T) → kept ≡ Some part → FitsKnown known part

    -- nothing has come yet, and one caller is there and knows nothing
    pub record IsUnused (parts : List T) (ways : List (Way T)) : Type 0 where
      pub alone : ways ≡ came_to None ∷ []
      pub empty : parts ≡ []

    -- all who come know of this service, and all that stands there is of it
    pub record IsUsed (of : WorkerState) (parts : List T) (ways : List (Way T)) : Type 0 where
      pub callers : AllByRecursion (λ one. one.known ≡ Some of) ways
      pub parts_of : AllByRecursion (of_service of) parts

    -- no service is known yet, or one
    abbrev pub AreOfOne : List T → List (Way T) → Type 0
    AreOfOne parts ways =
        (one : Option WorkerState)
        × MatchOption one (IsUnused parts ways) (λ of. IsUsed of parts ways)

  -- a part is out with a caller only where it keeps one
  abbrev pub IsHome : Way T → Option T → Type 0
  IsHome own kept = own.out ≡ is_some kept
