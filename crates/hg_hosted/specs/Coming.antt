-- The workers that have left and come to their service.
use Rattle.std.specs.Prelude.{◌≡◌, ◌≢◌, ◌<◌, ◌==◌, ◌++◌, ℕ, Bool, true, false, List, Some, Box, slice_get}
use Rattle.std.specs.Global.{Global}
use Rattle.std.specs.List.{list_any}
use Rattle.atomic_table.specs.Seated.{TableId}
use Rattle.hg_machine.specs.Policy.{Policy}
use Rattle.hg_worker.specs.declared.state.WorkerState.{WorkerState}
use Rattle.hg_worker.specs.States.{IsNamed}
use Rattle.hg_hosted.specs.Leaving.{IsIdle}
use Rattle.hg_hosted.specs.declared.parts.Left.{Left}

-- the states of workers, as their service keeps them
abbrev pub Comers : Type 0
Comers = List (Box WorkerState Global)

-- whether the worker of this number is among them
abbrev pub has_come : Comers → ℕ → Bool
has_come came worker = list_any (λ own. own.value.number == worker) came

-- each worker of the policy is
abbrev pub HaveCome : Policy → Comers → Type 0
HaveCome policy came = (worker : ℕ) → worker < policy.workers → has_come came worker ≡ true

-- it is the lowest that isn't
pub record IsFirstOut (policy : Policy) (came : Comers) (worker : ℕ) : Type 0 where
  pub below : worker < policy.workers
  pub out : has_come came worker ≡ false
  pub lower : (other : ℕ) → other < worker → has_come came other ≡ true

-- who has come is there still, in the state in which it came, and more may stand behind
pub record StayCome (old new : Comers) : Type 0 where
  pub more : Comers
  pub goes_on : new ≡ old ++ more

-- each is of the service with this policy and table, and has left: it holds no segment and has
-- nothing in hand
pub record HaveLeft (policy : Policy) (table : TableId) (came : Comers) : Type 0 where
  pub named : (k : ℕ) (own : _) → slice_get came k ≡ Some own → IsNamed policy table own.value
  pub idle : (k : ℕ) (own : _) → slice_get came k ≡ Some own → IsIdle own.value

-- this state is nowhere among them
abbrev pub IsMissing : Comers → Box WorkerState Global → Type 0
IsMissing came own = (at : ℕ) → slice_get came at ≢ Some own

-- each of these that is a worker is there, in the state in which it was taken: it isn't so that it is
-- nowhere
abbrev pub AreNoted : List Left → Comers → Type 0
AreNoted taken came =
    (k : ℕ) (left : Left) (own : _) → slice_get taken k ≡ Some left → left.state ≡ Some own
    → ¬ (IsMissing came own)
