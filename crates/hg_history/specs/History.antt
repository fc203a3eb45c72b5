-- Histories of calls, and which of them a machine has.
use Rattle.std.specs.Prelude.{◌≡◌, ℕ, ◌==◌, if◌then◌else◌, List, [], ◌∷◌}

-- A history has calls in one order, each with the name of who made it; a call is what was asked and
-- what it was answered. The log of one is what that one has of it, in the order of the history
abbrev pub log_of : {C : Type 0} → ℕ → List (ℕ × C) → List C
log_of name [] = []
log_of name (made ∷ more) =
    if made.0 == name then made.1 ∷ log_of name more else log_of name more

-- a machine's steps are a relation: from this state, this one may make this call, and leave that
-- state; a run makes the calls of a history one after another
abbrev pub IsRun : {M C : Type 0} → (M → ℕ → C → M → Type 0) → M → List (ℕ × C) → M → Type 0
IsRun Steps old [] new = new ≡ old
IsRun {M} Steps old (made ∷ more) new =
    (mid : M) × Steps old made.0 made.1 mid × IsRun Steps mid more new
