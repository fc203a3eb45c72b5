-- What a call of a worker is as a decision of its seat.
use Rattle.std.specs.Prelude.{ℕ, List, [], ◌∷◌, Option, Some, None}
use Rattle.hg_agreement.specs.Views.{View}
use Rattle.hg_roles.specs.Deciding.{called}
use Rattle.hg_roles.specs.Roles.{Call, Role}

abbrev pub made_by : View → Option Call → List (ℕ × Call)
made_by before None = []
made_by before (Some call) = (before.worker, call) ∷ []

abbrev pub change_by : Option Call → View → Role → Role
change_by None after role = role
change_by (Some call) after role = called after call role
