-- A worker that the policy has, it has after a step.
use Rattle.std.proofs.Common.{ℕ, ◌<◌, sym, subst}
use Rattle.heapguard_core.specs.State.{State}
use Rattle.heapguard_core.specs.Steps.{Step}
use Rattle.heapguard_core.specs.StepLaws.{StepsKeepPolicy}
use Rattle.heapguard_core.specs.Banks.{BankState, BankStep, BankStepsKeepPolicy, Request}
use Rattle.heapguard_core.specs.declared.Event.{Event}
use Rattle.heapguard_core.specs.declared.Answer.{Answer}

pub served_after : StepsKeepPolicy → (old : State) (worker : ℕ) (event : Event) (answer : Answer) (new : State) → Step old worker event answer new → worker < old.policy.workers → worker < new.policy.workers
served_after law old worker event answer new step served = subst (λ policy. worker < policy.workers) (sym (law old worker event answer new step)) served

pub bank_served_after : BankStepsKeepPolicy → (old : BankState) (worker : ℕ) (request : Request) (answer : Answer) (new : BankState) → BankStep old worker request answer new → worker < old.policy.workers → worker < new.policy.workers
bank_served_after law old worker request answer new step served = subst (λ policy. worker < policy.workers) (sym (law old worker request answer new step)) served
