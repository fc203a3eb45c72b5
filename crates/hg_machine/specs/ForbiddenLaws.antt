-- Laws of what is forbidden.
use Rattle.std.specs.Prelude.{◌≡◌, ◌≢◌, ℕ, ◌==◌, ◌&&◌, true, false, not, [], ◌∷◌, Option}
use Rattle.std.specs.Prelude.{Some, None, is_some, is_none}
use Rattle.hg_place.specs.declared.Right.{Right}
use Rattle.hg_place.specs.declared.Place.{Place}
use Rattle.hg_place.specs.Places.{number_of}
use Rattle.hg_place.specs.Slots.{Slot}
use Rattle.hg_machine.specs.declared.Rule.{Rule}
use Rattle.hg_machine.specs.declared.Rule.TheVariants as rule
use Rattle.hg_machine.specs.First.{first_of}
use Rattle.hg_machine.specs.Policy.{Policy, is_tenant, arena_of, grants, forbids}
use Rattle.hg_machine.specs.SoundPolicy.{IsSoundPolicy}
use Rattle.hg_machine.specs.Life.{owner_of}
use Rattle.hg_machine.specs.State.{State, record_at}
use Rattle.hg_machine.specs.Denial.{is_admitted, denial_on, denial}

-- the first rule that denies it where nobody asks what is forbidden
abbrev pub denial_by_grants : Policy → ℕ → Right → ℕ → ℕ → Slot → Option Rule
denial_by_grants policy actor right segment expected slot =
    first_of
    ((not (is_tenant policy actor), rule.Stranger)
    ∷ (not (is_some (arena_of policy segment)), rule.Stale 0)
    ∷ (not (slot.generation == expected), rule.Stale slot.generation)
    ∷ (not slot.live, rule.AlreadyFreed)
    ∷ (not (is_admitted policy (arena_of policy segment) actor), rule.ForeignArena)
    ∷ (not (grants policy slot.owner actor right), rule.NotGranted)
    ∷ [])

-- what would be allowed or not granted is forbidden, and what another rule denies stays so
abbrev pub forbidden_else : Option Rule → Option Rule
forbidden_else None = Some rule.Forbidden
forbidden_else (Some rule.NotGranted) = Some rule.Forbidden
forbidden_else (Some rule) = Some rule

-- nothing is forbidden
abbrev pub ForbidsNothing : Policy → Type 0
ForbidsNothing policy = (owner actor : ℕ) (right : Right) → forbids policy owner actor right ≡ false

-- where nothing is forbidden the verdict is by the grants
abbrev pub NothingForbidden : Type 0
NothingForbidden =
    (policy : Policy) (actor : ℕ) (right : Right) (segment expected : ℕ) (slot : Slot)
    → ForbidsNothing policy
    → denial_on policy actor right segment expected slot
    ≡ denial_by_grants policy actor right segment expected slot

-- what is forbidden is told before any grant, and after each other rule
abbrev pub ForbiddenIsTold : Type 0
ForbiddenIsTold =
    (policy : Policy) (actor : ℕ) (right : Right) (segment expected : ℕ) (slot : Slot)
    → forbids policy slot.owner actor right ≡ true
    → denial_on policy actor right segment expected slot
    ≡ forbidden_else (denial_by_grants policy actor right segment expected slot)

-- what isn't forbidden is judged by the grants
abbrev pub UnforbiddenIsGranted : Type 0
UnforbiddenIsGranted =
    (policy : Policy) (actor : ℕ) (right : Right) (segment expected : ℕ) (slot : Slot)
    → forbids policy slot.owner actor right ≡ false
    → denial_on policy actor right segment expected slot
    ≡ denial_by_grants policy actor right segment expected slot

-- so a deny takes what it names and gives nothing
abbrev pub ForbiddingOnlyTakes : Type 0
ForbiddingOnlyTakes =
    (policy : Policy) (actor : ℕ) (right : Right) (segment expected : ℕ) (slot : Slot)
    → is_none (denial_on policy actor right segment expected slot)
    ≡ (not (forbids policy slot.owner actor right)
    && is_none (denial_by_grants policy actor right segment expected slot))

-- a forbidden right is denied in each state, for each generation
abbrev pub ForbiddenIsDenied : Type 0
ForbiddenIsDenied =
    (s : State) (actor : ℕ) (right : Right) (place : Place) (expected : ℕ)
    → forbids s.policy (owner_of (record_at s (number_of place)).life) actor right ≡ true
    → denial s actor right place expected ≢ None

-- no deny touches what an actor does with blocks of its own
abbrev pub OwnIsUnforbidden : Type 0
OwnIsUnforbidden =
    (policy : Policy) (actor : ℕ) (right : Right) (segment expected : ℕ) (slot : Slot)
    → IsSoundPolicy policy → slot.owner ≡ actor
    → denial_on policy actor right segment expected slot
    ≡ denial_by_grants policy actor right segment expected slot
