-- A service: a machine, what all seats share, and what each has by itself.
use Rattle.std.specs.Prelude.{◌≡◌, ◌≢◌, ℕ, List}
use mathlib.Core.Option.{some}
use lib.ListN.{get_elem?}

-- The machine has states M, its calls are C, and it begins in one state. What seats share is W, and
-- it shows a state or not. A seat has a list of parts P, its view. A part has a name, below the
-- count, and the log of the calls that were made in that name; and a state agrees with what else
-- it has, or not
pub record Service (M C W P : Type 0) : Type 1 where
  pub Steps : M → ℕ → C → M → Type 0
  pub start : M
  pub Shows : W → M → Type 0
  pub Agrees : P → M → Type 0
  pub count : ℕ
  pub name : P → ℕ
  pub log : P → List C

-- the part stands in the view at this place
abbrev pub IsIn : {P : Type 0} → List P → ℕ → P → Type 0
IsIn view j part = get_elem? view j ≡ some part

-- it stands in the view of the seat i
abbrev pub Stands : {P : Type 0} → List (List P) → ℕ → ℕ → P → Type 0
Stands {P} views i j part = (view : List P) × IsIn views i view × IsIn view j part

-- no part of the view has the name
abbrev pub IsStranger : {M C W P : Type 0} → Service M C W P → List P → ℕ → Type 0
IsStranger {M} {C} {W} {P} x view name = (j : ℕ) (part : P) → IsIn view j part → x.name part ≢ name
