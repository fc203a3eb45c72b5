-- An allocation: by what counts over all cores, of the first core that has a place.
use Rattle.std.specs.Prelude.{◌≡◌, ℕ, Result, Err, None, MatchResult, length, slice_index, slice_set}
use Rattle.hg_place.specs.declared.Actor.{Actor}
use Rattle.hg_machine.specs.declared.AllocVerdict.{AllocVerdict}
use Rattle.hg_machine.specs.declared.AllocVerdict.TheVariants as verdict
use Rattle.hg_machine.specs.declared.Answer.{Answer}
use Rattle.hg_machine.specs.declared.Answer.TheVariants as answer
use Rattle.hg_machine.specs.Request.{alloc_verdict, words_for, size_of}
use Rattle.hg_heap.specs.Choice.{chosen_place}
use Rattle.hg_heap.specs.declared.refused.Refused.{Refused}
use Rattle.hg_heap.specs.declared.refused.Refused.TheVariants as refused
use Rattle.hg_worker.specs.Seats.{number_in, records_in}
use Rattle.hg_bank.specs.declared.bank.BankHandle.{BankHandle}
use Rattle.hg_hosted.specs.declared.worker.HostedWorker.{HostedWorker}
use Rattle.hg_hosted.specs.Calls.{Allocates}
use Rattle.hg_hosted.specs.Serving.{Serves}
use Rattle.hg_bank_service.specs.Choosing.{AreAsked, IsServed}
use Rattle.hg_hosted.specs.Has.{Has}
use Rattle.hg_bank_service.specs.Sums.{charge_over}
use Rattle.hg_bank_service.specs.declared.worker.BankWorker.{BankWorker}

-- the verdict on an allocation, by what counts over all cores
abbrev pub sum_verdict : BankWorker → Actor → ℕ → ℕ → AllocVerdict
sum_verdict worker actor arena bytes =
    alloc_verdict worker.policy actor.0 arena (words_for bytes)
    (charge_over worker.workers.items actor.0)

-- a core has no place for the size, and says so
pub record RefusesBlock (actor : Actor) (arena bytes : ℕ) (was next : HostedWorker)
    : Type 0 where
  pub served : Serves (Allocates actor arena bytes answer.NoRoom) was next
  pub shared : next.shared ≡ was.shared
  pub none :
      Has (λ state. chosen_place number_in records_in state.heap arena (size_of bytes) ≡ None) was

-- a core gives the block
pub record GivesBlock (actor : Actor) (arena bytes : ℕ) (told : Answer) (was next : HostedWorker)
    : Type 0 where
  pub served : Serves (Allocates actor arena bytes told) was next
  pub shared : next.shared ≡ was.shared

-- the first core that has a place gives the block, and is current from then on
pub record AllocatesIn (actor : Actor) (arena bytes : ℕ) (block : BankHandle)
    (old new : BankWorker) : Type 0 where
  pub served :
      IsServed (RefusesBlock actor arena bytes)
      (GivesBlock actor arena bytes (answer.Block block.handle))
      (slice_index old.currents arena) block.core old.workers.items new.workers.items
  pub currents : new.currents ≡ slice_set old.currents arena block.core
  pub policy : new.policy ≡ old.policy
  pub number : new.number ≡ old.number

-- each core was asked, and none has a place
pub record FindsNoRoom (actor : Actor) (arena bytes : ℕ) (old new : BankWorker) : Type 0 where
  pub asked :
      AreAsked (RefusesBlock actor arena bytes) (slice_index old.currents arena)
      (length old.workers.items) old.workers.items new.workers.items
  pub currents : new.currents ≡ old.currents
  pub policy : new.policy ≡ old.policy
  pub number : new.number ≡ old.number

-- by the verdict: refused, and nothing changes; or given by the first core with a place, if one has
abbrev pub AllocatesBy
    : AllocVerdict → Actor → ℕ → ℕ → Result BankHandle Refused → BankWorker → BankWorker → Type 0
AllocatesBy (verdict.Denied rule) actor arena bytes result old new =
    (result ≡ Err (refused.Denied rule)) × (new ≡ old)
AllocatesBy verdict.TooLarge actor arena bytes result old new =
    (result ≡ Err refused.TooLarge) × (new ≡ old)
AllocatesBy (verdict.Fits size) actor arena bytes result old new =
    MatchResult result (λ block. AllocatesIn actor arena bytes block old new)
    (λ why. (why ≡ refused.NoRoom) × FindsNoRoom actor arena bytes old new)
