-- An example of what the one run says of logs: one block is freed twice.
use Rattle.std.specs.Prelude.{◌≡◌, ◌≢◌, ◌⊎◌, ℕ, List}
use Rattle.hg_place.specs.declared.Actor.{Actor}
use Rattle.hg_place.specs.declared.Handle.{Handle}
use Rattle.hg_machine.specs.declared.Answer.TheVariants as answer
use Rattle.hg_machine.specs.declared.Event.TheVariants as event
use Rattle.hg_machine.specs.Policy.{Policy}
use Rattle.hg_agreement.specs.Views.{View}
use Rattle.hg_history.specs.Service.{IsIn}
use Rattle.hg_roles.specs.Histories.{IsRunOfAll}
use Rattle.hg_roles.specs.Roles.{Call, Role, of_worker}

-- the call has freed the block
pub record HasFreed (handle : Handle) (call : Call) : Type 0 where
  pub actor : Actor
  pub asked : call.0 ≡ event.Free actor handle
  pub served : (call.1 ≡ answer.Done) ⊎ (call.1 ≡ answer.Parted)

-- of the calls that the logs of workers have, of two workers or of one, at most one has freed it
abbrev pub FreedOnce : Type 0
FreedOnce =
    (policy : Policy) (words : List ℕ) (roles : List Role) (i j : ℕ) (one other : View)
    (log more : List Call) (k l : ℕ) (call second : Call) (handle : Handle)
    → IsRunOfAll policy words roles
    → IsIn roles i (of_worker one log) → IsIn roles j (of_worker other more)
    → (one.worker ≡ other.worker → k ≢ l)
    → IsIn log k call → IsIn more l second
    → HasFreed handle call → HasFreed handle second → ⊥
