-- What a search through the cores tells.
use Rattle.std.specs.Prelude.{◌≡◌, ℕ, ◌<◌, List, Some, All, slice_get, slice_index, slice_set}
use Rattle.hg_place.specs.declared.Actor.{Actor}
use Rattle.hg_machine.specs.declared.AllocVerdict.TheVariants as verdict
use Rattle.hg_machine.specs.declared.Answer.{Answer}
use Rattle.hg_machine.specs.declared.Event.{Event}
use Rattle.hg_machine.specs.Charge.{charge}
use Rattle.hg_machine.specs.Lists.{Kept, IsPartition}
use Rattle.hg_machine.specs.Request.{alloc_verdict, words_for, size_of}
use Rattle.hg_machine.specs.Soundness.{IsSound}
use Rattle.hg_bank.specs.State.{charge_over}
use Rattle.hg_choice.specs.ChosenSteps.{ChosenStep}

-- a core in which the worker is one of the policy's, and its verdict on the allocation is that it
-- fits
pub record FitsIn (worker : ℕ) (actor : Actor) (arena bytes : ℕ) (k : Kept) : Type 0 where
  pub sound : IsSound k.state
  pub worker_is : worker < k.state.policy.workers
  pub fits :
      alloc_verdict k.state.policy actor.0 arena (words_for bytes) (charge k.state worker actor.0)
      ≡ verdict.Fits (size_of bytes)

-- one core served the event, and the others are as they were
pub record IsServedIn (cores : List Kept) (worker : ℕ) (event : Event) (core : ℕ)
    (answer : Answer) (new : List Kept) : Type 0 where
  pub was : Kept
  pub next : Kept
  pub there : slice_get cores core ≡ Some was
  pub step : ChosenStep was worker event answer next
  pub sound : IsSound next.state
  pub lists : IsPartition next
  pub after : new ≡ slice_set cores core next

-- sound cores in which the worker is one of the policy's, and by tenant what counts with the worker
-- over all of them
pub record IsCounted (worker tenants : ℕ) (row : List ℕ) (cores : List Kept) : Type 0 where
  pub sound : All (λ k. IsSound k.state) cores
  pub worker_is : All (λ k. worker < k.state.policy.workers) cores
  pub each :
      (tenant : ℕ) → tenant < tenants → slice_index row tenant ≡ charge_over cores worker tenant
