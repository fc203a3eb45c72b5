-- Calls that concern a worker and another part.
use Rattle.std.specs.Prelude.{◌≡◌, ℕ, List, [], ◌∷◌}
use Rattle.hg_machine.specs.Policy.{Policy}
use Rattle.hg_agreement.specs.Views.{View}
use Rattle.hg_history.specs.Steps.{Decides}
use Rattle.hg_roles.specs.Joined.{both_called}
use Rattle.hg_roles.specs.Roles.{Call, Role, of_worker}
use Rattle.hg_roles.specs.Served.{running}
use Rattle.hg_run_table.specs.declared.table.RunSeat.{RunSeat}
use Rattle.hg_run_table.specs.Seated.{name_in, HaveRoles}

-- the seat has one part, which has this role
abbrev pub IsOthers : RunSeat → Role → Type 0
IsOthers seat role = HaveRoles seat.seat.me.0.run (role ∷ [])

-- The call is what a step owes of the joined seats of the worker and the other part, which leaves
-- all words
pub record IsTiedTogether
    (policy : Policy) (before : View) (log : List Call) (call : Call) (after : View)
    (role left : Role)
    : Type 0 where
  pub worker : after.worker ≡ before.worker
  pub left_is : both_called after left call role ≡ left
  pub named : name_in left ≡ name_in role
  pub decides :
      (words : List ℕ)
      → Decides (running policy) ((before.worker, call) ∷ []) words words
      (of_worker before log ∷ role ∷ []) (both_called after left call)
