-- What a step of a seat owes.
use Rattle.std.specs.Prelude.{◌≡◌, ℕ, List, [], ◌++◌}
use Rattle.hg_history.specs.History.{log_of, IsRun}
use Rattle.hg_history.specs.Service.{Service, IsIn, IsStranger}

-- From a state the machine makes these calls, and comes to one that the shared part shows after the
-- step, and that agrees with each part of the view as it is after it, and still with whatever part
-- of another name the state agreed with
pub record Moves
    {M C W P : Type 0} (x : Service M C W P) (old : M) (made : List (ℕ × C)) (after : W)
    (view : List P) (change : P → P)
    : Type 0 where
  pub new : M
  pub run : IsRun x.Steps old made new
  pub shown : x.Shows after new
  pub agrees : (j : ℕ) (part : P) → IsIn view j part → x.Agrees (change part) new
  pub others :
      (other : P) → x.Agrees other old → IsStranger x view (x.name other) → x.Agrees other new

-- A step of a seat with this view decides these calls, mostly one or none. It leaves the names of
-- its parts, each of which logs the calls in its name; no call is in another name. And each state
-- that is shown before and agrees with the view moves so
pub record Decides
    {M C W P : Type 0} (x : Service M C W P) (made : List (ℕ × C)) (before after : W)
    (view : List P) (change : P → P)
    : Type 0 where
  pub names : (j : ℕ) (part : P) → IsIn view j part → x.name (change part) ≡ x.name part
  pub logs :
      (j : ℕ) (part : P) → IsIn view j part
      → x.log (change part) ≡ x.log part ++ log_of (x.name part) made
  pub own : (name : ℕ) → IsStranger x view name → log_of name made ≡ []
  pub moves :
      (m : M) → x.Shows before m → ((j : ℕ) (part : P) → IsIn view j part → x.Agrees part m)
      → Moves x m made after view change
