-- Whose blocks there are.
use Rattle.std.specs.Prelude.{◌≡◌, ℕ, true, false, List}
use Rattle.hg_place.specs.Places.{segment_of}
use Rattle.hg_machine.specs.declared.Event.{Event}
use Rattle.hg_machine.specs.declared.Answer.{Answer}
use Rattle.hg_machine.specs.Policy.{Policy, is_tenant, arena_of}
use Rattle.hg_machine.specs.Life.{Life, is_home, owner_of}
use Rattle.hg_machine.specs.State.{State, record_at, opening}
use Rattle.hg_machine.specs.Denial.{is_admitted}
use Rattle.hg_machine.specs.Steps.{Run}

-- who owns the block, if there is one, is a tenant that the arena of the segment admits
pub record HasOwner (p : Policy) (segment : ℕ) (life : Life) : Type 0 where
  pub tenant : is_home life ≡ false → is_tenant p (owner_of life) ≡ true
  pub admitted : is_home life ≡ false → is_admitted p (arena_of p segment) (owner_of life) ≡ true

-- since the opening each block has such an owner
abbrev pub OwnersAreTenants : Type 0
OwnersAreTenants =
    (policy : Policy) (events : List (ℕ × Event)) (answers : List Answer) (new : State) (place : ℕ)
    → Run (opening policy) events answers new
    → HasOwner policy (segment_of place) (record_at new place).life
