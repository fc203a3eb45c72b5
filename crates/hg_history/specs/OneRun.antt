-- The rule: what all seats were answered is one run of the machine.
use Rattle.std.specs.Prelude.{◌≡◌, ℕ, ◌<◌, ◌≤◌, List, []}
use Rattle.hg_history.specs.History.{log_of, IsRun}
use Rattle.hg_history.specs.Service.{Service, IsIn, Stands, IsStranger}

-- There is a history of the machine from its start, to a state that the shared part shows and that
-- agrees with every part of every view. What it has of each name is the log of the part of that
-- name. Each name is of one part at most, and below the count; beyond it nobody has made a call
pub record IsOneRun {M C W P : Type 0} (x : Service M C W P) (shared : W) (views : List (List P))
    : Type 0 where
  pub history : List (ℕ × C)
  pub state : M
  pub legal : IsRun x.Steps x.start history state
  pub shown : x.Shows shared state
  pub agrees : (i j : ℕ) (part : P) → Stands views i j part → x.Agrees part state
  pub logs :
      (i j : ℕ) (part : P) → Stands views i j part → log_of (x.name part) history ≡ x.log part
  pub one_part :
      (i j k l : ℕ) (a b : P) → Stands views i j a → Stands views k l b → x.name a ≡ x.name b
      → (i ≡ k) × (j ≡ l)
  pub below : (i j : ℕ) (part : P) → Stands views i j part → x.name part < x.count
  pub beyond : (name : ℕ) → x.count ≤ name → log_of name history ≡ []

-- no part of a view has made a call, and each is of another name; the start agrees with each
pub record IsNew {M C W P : Type 0} (x : Service M C W P) (shared : W) (views : List (List P))
    : Type 0 where
  pub shown : x.Shows shared x.start
  pub agrees : (i j : ℕ) (part : P) → Stands views i j part → x.Agrees part x.start
  pub no_call : (i j : ℕ) (part : P) → Stands views i j part → x.log part ≡ []
  pub one_part :
      (i j k l : ℕ) (a b : P) → Stands views i j a → Stands views k l b → x.name a ≡ x.name b
      → (i ≡ k) × (j ≡ l)
  pub below : (i j : ℕ) (part : P) → Stands views i j part → x.name part < x.count

-- the view has the part of each name
abbrev pub HasAll : {M C W P : Type 0} → Service M C W P → List P → Type 0
HasAll {M} {C} {W} {P} x view =
    (name : ℕ) → name < x.count → (j : ℕ) × (part : P) × IsIn view j part × (x.name part ≡ name)

-- who has all parts knows the history: it is one of the machine, to a state that is shown and
-- agrees with each part, and an interleaving of their logs, with no other call
pub record IsWhole {M C W P : Type 0} (x : Service M C W P) (shared : W) (view : List P)
    : Type 0 where
  pub history : List (ℕ × C)
  pub state : M
  pub legal : IsRun x.Steps x.start history state
  pub shown : x.Shows shared state
  pub agrees : (j : ℕ) (part : P) → IsIn view j part → x.Agrees part state
  pub logs : (j : ℕ) (part : P) → IsIn view j part → log_of (x.name part) history ≡ x.log part
  pub no_other : (name : ℕ) → IsStranger x view name → log_of name history ≡ []
