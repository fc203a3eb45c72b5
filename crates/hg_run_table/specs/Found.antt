-- What a step says of all parts of the seat that makes it: that some state agrees with them.
use Rattle.std.specs.Prelude.{ℕ, List}
use Rattle.hg_machine.specs.Shown.{IsShownBy}
use Rattle.hg_machine.specs.Soundness.{IsSound}
use Rattle.hg_machine.specs.State.{State, record_at}
use Rattle.hg_history.specs.Service.{IsIn}
use Rattle.hg_roles.specs.Roles.{Role, RoleAgrees}
use Rattle.hg_run_table.specs.declared.part.Part.{Part}
use Rattle.hg_run_table.specs.Seated.{HaveRoles}

-- there is a state that agrees with every part, whatever roles they have
pub record IsAgreed (run : List Part) : Type 0 where
  pub state : State
  pub sound : IsSound state
  pub agrees :
      (roles : List Role) → HaveRoles run roles → (j : ℕ) (role : Role) → IsIn roles j role
      → RoleAgrees role state

-- and it shows the word that was found at the place
pub record AgreedShows (place word : ℕ) (run : List Part) : Type 0 where
  pub agreed : IsAgreed run
  pub shown : IsShownBy (record_at agreed.state place) word

-- (which no search takes apart)
unfoldable pub IsFound : ℕ → ℕ → List Part → Type 0
IsFound = AgreedShows
