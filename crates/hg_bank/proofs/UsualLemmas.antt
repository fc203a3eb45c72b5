-- What holds of a bank's cores since its opening.
use Rattle.std.proofs.Common.{◌≡◌, inl, inr, ℕ, ◌<◌, List, [], ◌∷◌, suc, refl, sym, subst, ◌∙◌}
use Rattle.std.proofs.Common.{arith, All}
use Rattle.std.proofs.lemmas.List.Elements.{All-nil, All-cons, All-push, All-set}
use Rattle.hg_core.specs.Opening.{opened}
use Rattle.hg_machine.specs.declared.Answer.{Answer}
use Rattle.hg_machine.specs.declared.Event.{Event}
use Rattle.hg_machine.specs.Lists.{Kept}
use Rattle.hg_machine.specs.Policy.{Policy}
use Rattle.hg_machine.specs.SoundPolicy.{IsSoundPolicy}
use Rattle.hg_machine.specs.Soundness.{IsSound}
use Rattle.hg_machine.specs.Steps.{Step}
use Rattle.hg_machine.proofs.Opening.{opening_is_sound}
use Rattle.hg_machine.proofs.Preserves.{steps_keep_sound, steps_keep_policy}
use Rattle.hg_bank.specs.Histories.{Entry, grew, answered, History, IsOfWorker}
use Rattle.hg_bank.specs.Opening.{opened_bank, grown}
use Rattle.hg_bank.specs.Requests.{Request}
use Rattle.hg_bank.specs.State.{BankState}
use Rattle.hg_bank.specs.Steps.{IsServedBy, BankStep}
use Rattle.hg_bank.proofs.RowLemmas.{AreRows, open_rows, put_rows, by_arena}
use Rattle.hg_bank.proofs.StepCases.{step_cases, cores_after, policy_after, at_number}
use Rattle.hg_bank.proofs.UnusedLemmas.{AreUnused, opening_unused, stays_unused}

-- what holds of each core since the bank's opening
pub record IsUsual (policy : Policy) (k : Kept) : Type 0 where
  pub serves : k.state.policy ≡ policy
  pub sound : IsSound k.state
  pub unused : AreUnused k.state

pub record IsUsualBank (policy : Policy) (b : BankState) : Type 0 where
  pub serves : b.policy ≡ policy
  pub cores : All (IsUsual policy) b.cores
  pub rows : AreRows policy.workers b.currents

open_core : (policy : Policy) → IsSoundPolicy policy → IsUsual policy (opened policy)
open_core policy sound = record {
  serves = refl;
  sound = opening_is_sound policy sound;
  unused = opening_unused policy;
}

pub open_bank : (policy : Policy) (room : ℕ) → IsSoundPolicy policy
    → IsUsualBank policy (opened_bank policy room)
open_bank policy room sound = record {
  serves = refl;
  cores = All-cons (IsUsual policy) (opened policy) [] (open_core policy sound)
      (All-nil (IsUsual policy));
  rows = open_rows policy.workers;
}

pub grown_bank : (policy : Policy) (b : BankState) → IsSoundPolicy policy → IsUsualBank policy b
    → IsUsualBank policy (grown b)
grown_bank policy b sound usual = record {
  serves = usual.serves;
  cores = All-push (IsUsual policy) b.cores (opened b.policy) usual.cores
      (subst (λ p. IsUsual policy (opened p)) (sym usual.serves) (open_core policy sound));
  rows = usual.rows;
}

module _ {policy : Policy} {old : BankState} {worker : ℕ} (usual : IsUsualBank policy old)
    (below : worker < policy.workers) where
  pub inside : worker < old.policy.workers
  inside = subst (λ p. worker < p.workers) (sym usual.serves) below

  module _ {new : BankState} {request : Request} {told : Answer} {core : ℕ}
      (is : IsServedBy old worker request told new core) where
    pub was_usual : IsUsual policy is.was
    was_usual = at_number (IsUsual policy) old.cores core is.was usual.cores is.there

    pub core_worker : worker < is.was.state.policy.workers
    core_worker = subst (λ p. worker < p.workers) (sym was_usual.serves) below

    served_usual : (e : Event) → Step is.was.state worker e told is.next.state
        → IsUsualBank policy new
    served_usual e step = record {
      serves = policy_after is ∙ usual.serves;
      cores =
          subst (All (IsUsual policy)) (sym (cores_after old worker request told new core is))
          (All-set (IsUsual policy) old.cores core is.next (record {
            serves =
                steps_keep_policy is.was.state worker e told is.next.state step
                ∙ was_usual.serves;
            sound = steps_keep_sound is.was.state worker e told is.next.state was_usual.sound
                core_worker step;
            unused = stays_unused is.was.state worker e told is.next.state was_usual.sound step
                was_usual.unused;
          }) usual.cores);
      rows = by_arena is (AreRows policy.workers) usual.rows
          (λ arena asks. put_rows policy.workers old.currents worker arena core usual.rows below);
    }

  pub step_usual : {new : BankState} (request : Request) (told : Answer)
      → BankStep old worker request told new → IsUsualBank policy new
  step_usual {new} request told step =
      elim (step_cases old worker request told new step) as (λ _. IsUsualBank policy new) [
        | inl none ↦ subst (IsUsualBank policy) (sym none.1.1) usual
        | inr by ↦ served_usual by.2 _ by.2.step.step
      ]

pub first_of : (policy : Policy) (e : Entry) (later : List Entry)
    → All (IsOfWorker policy) (e ∷ later) → IsOfWorker policy e
first_of policy e later all = all 0 e (omega arith)

pub rest_of : (policy : Policy) (e : Entry) (later : List Entry)
    → All (IsOfWorker policy) (e ∷ later) → All (IsOfWorker policy) later
rest_of policy e later all k d below = all (suc k) d (omega arith)

pub usual_since : (policy : Policy) (entries : List Entry) (old new : BankState)
    → IsSoundPolicy policy → IsUsualBank policy old → All (IsOfWorker policy) entries
    → History old entries new → IsUsualBank policy new
usual_since policy [] old new sound usual workers run = subst (IsUsualBank policy) (sym run) usual
usual_since policy (grew ∷ later) old new sound usual workers run =
    usual_since policy later (grown old) new sound (grown_bank policy old sound usual)
    (rest_of policy grew later workers) run.1
usual_since policy (answered w request core told ∷ later) old new sound usual workers run =
    let below = first_of policy (answered w request core told) later workers in
    usual_since policy later run.1.0 new sound (step_usual usual below request told run.1.1)
    (rest_of policy (answered w request core told) later workers) run.1.2
