-- Orders of calls, and that a core answers so.
use Rattle.std.specs.Prelude.{◌≡◌, ℕ, ◌<◌, ◌==◌, List, All, filter, map}
use Rattle.hg_calls.specs.declared.call.Call.{Call}
use Rattle.hg_machine.specs.declared.Answer.{Answer}
use Rattle.hg_machine.specs.declared.Event.{Event}
use Rattle.hg_machine.specs.Policy.{Policy}
use Rattle.hg_machine.specs.Lists.{Kept}
use Rattle.hg_choice.specs.ChosenSteps.{Chosen}
use Rattle.hg_core.specs.Opening.{opened}

-- the calls of a worker, in their order
abbrev pub calls_of : ℕ → List Call → List Call
calls_of worker calls = filter (λ call. call.worker == worker) calls

-- in another order the same calls, all of workers below the count, those of each in its own order
pub record IsOrderOf (workers : ℕ) (calls order : List Call) : Type 0 where
  pub given : All (λ call. call.worker < workers) calls
  pub theirs : All (λ call. call.worker < workers) order
  pub same : (worker : ℕ) → worker < workers → calls_of worker order ≡ calls_of worker calls

-- the events of calls, by worker, and their answers
abbrev pub events_of : List Call → List (ℕ × Event)
events_of = map (λ call. (call.worker, call.event))

abbrev pub answers_of : List Call → List Answer
answers_of = map (λ call. call.answer)

-- from the opening of the policy the machine answers so, one call after another, with the choices
-- of a core
abbrev pub IsAnsweredSo : Policy → List Call → Type 0
IsAnsweredSo policy order =
    (end : Kept) × Chosen (opened policy) (events_of order) (answers_of order) end

-- the calls, in an order in which they are answered so
pub record Explains (policy : Policy) (calls order : List Call) : Type 0 where
  pub same : IsOrderOf policy.workers calls order
  pub run : IsAnsweredSo policy order
