-- Whom a bank has, after a step.
use Rattle.std.proofs.Common.{ℕ, ◌<◌, sym, subst}
use Rattle.hg_machine.specs.Policy.{Policy}
use Rattle.hg_machine.specs.declared.Answer.{Answer}
use Rattle.hg_bank.specs.Requests.{Request}
use Rattle.hg_bank.specs.State.{BankState}
use Rattle.hg_bank.specs.Steps.{BankStep}
use Rattle.hg_bank.proofs.LawLemmas.{steps_keep_policy}

pub has_after :
    (old new : BankState) (worker : ℕ) (request : Request) (answer : Answer)
    → BankStep old worker request answer new → worker < old.policy.workers
    → worker < new.policy.workers
has_after old new worker request answer made has =
    subst (λ (p : Policy). worker < p.workers)
    (sym (steps_keep_policy old worker request answer new made)) has
