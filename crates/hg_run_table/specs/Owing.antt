-- What a step at a word owes.
use Rattle.std.specs.Prelude.{◌≡◌, ℕ, List, slice_index, slice_set}
use Rattle.hg_machine.specs.Policy.{Policy}
use Rattle.hg_history.specs.Service.{IsIn}
use Rattle.hg_history.specs.Steps.{Decides}
use Rattle.hg_roles.specs.Roles.{Call, Role}
use Rattle.hg_roles.specs.Served.{running}
use Rattle.hg_table.specs.Told.{IsShownTo}
use Rattle.hg_table.specs.View.{View}
use Rattle.hg_run_table.specs.Seated.{name_in}

-- A step decides these calls, by parts that have these roles, and none becomes one of another name
pub record IsDecided
    (policy : Policy) (words later : List ℕ) (roles : List Role) (made : List (ℕ × Call))
    (change : Role → Role)
    : Type 0 where
  pub decides : Decides (running policy) made words later roles change
  pub names : (j : ℕ) (role : Role) → IsIn roles j role → name_in (change role) ≡ name_in role

-- Whatever word it finds at this index, of those that the life rule lets a seat find that knows
-- this, it decides the calls that are made of this word, and leaves that one
abbrev pub DecidesAt
    : Policy → ℕ → View → (ℕ → ℕ) → List Role → (ℕ → List (ℕ × Call)) → (ℕ → Role → Role) → Type 0
DecidesAt policy at lives leaves roles made change =
    (words : List ℕ) → IsShownTo at (slice_index words at) lives
    → IsDecided policy words (slice_set words at (leaves (slice_index words at))) roles
    (made (slice_index words at)) (change (slice_index words at))

-- the same where all words are left, and nothing hangs on one
abbrev pub DecidesAlone : Policy → List Role → List (ℕ × Call) → (Role → Role) → Type 0
DecidesAlone policy roles made change =
    (words : List ℕ) → IsDecided policy words words roles made change
