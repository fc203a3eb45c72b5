-- A refill: of the first core that has a segment of the arena.
use Rattle.std.specs.Prelude.{◌≡◌, ℕ, Option, Result, MatchOption, MatchResult, length}
use Rattle.std.specs.Prelude.{slice_index, slice_set}
use Rattle.hg_core.specs.declared.refusals.NoSegment.{NoSegment}
use Rattle.hg_machine.specs.declared.Answer.{Answer}
use Rattle.hg_machine.specs.declared.Answer.TheVariants as answer
use Rattle.hg_machine.specs.declared.Event.TheVariants as event
use Rattle.hg_bank.specs.declared.bank.BankSegment.{BankSegment}
use Rattle.hg_hosted.specs.declared.worker.HostedWorker.{HostedWorker}
use Rattle.hg_hosted.specs.Behind.{TakesOne}
use Rattle.hg_hosted.specs.Reaching.{Reaches}
use Rattle.hg_hosted.specs.Serving.{Serves}
use Rattle.hg_hosted.specs.Waiting.{Waits}
use Rattle.hg_bank_service.specs.Choosing.{AreAsked, IsServed}
use Rattle.hg_bank_service.specs.Named.{KeepsRest}
use Rattle.hg_bank_service.specs.declared.worker.BankWorker.{BankWorker}

-- a core is asked for a segment, and answers so
pub record AnswersRefill (arena : ℕ) (told : Answer) (was next : HostedWorker) : Type 0 where
  pub served : Serves (TakesOne arena told) was next
  pub reach : Reaches (event.Refill arena) was next

-- another call has the segments of a core, and nothing is done there
pub record RefillWaits (arena : ℕ) (was next : HostedWorker) : Type 0 where
  pub served : Serves (Waits (event.Refill arena)) was next
  pub reach : Reaches (event.Refill arena) was next

-- the first core that has one gives the segment, and is current from then on
pub record RefillsIn (arena : ℕ) (segment : BankSegment) (old new : BankWorker) : Type 0 where
  pub served :
      IsServed (AnswersRefill arena answer.NoSegment)
      (AnswersRefill arena (answer.Refilled segment.segment))
      (slice_index old.currents arena) segment.core old.workers.items new.workers.items
  pub currents : new.currents ≡ slice_set old.currents arena segment.core
  pub policy : new.policy ≡ old.policy
  pub number : new.number ≡ old.number

-- each core was asked, and none has one
pub record FindsNoSegment (arena : ℕ) (old new : BankWorker) : Type 0 where
  pub asked :
      AreAsked (AnswersRefill arena answer.NoSegment) (slice_index old.currents arena)
      (length old.workers.items) old.workers.items new.workers.items
  pub rest : KeepsRest old new

-- those before a core have none, and there another call has the segments: nobody is asked behind it
pub record FindsBusy (arena : ℕ) (old new : BankWorker) : Type 0 where
  pub core : ℕ
  pub served :
      IsServed (AnswersRefill arena answer.NoSegment) (RefillWaits arena)
      (slice_index old.currents arena) core old.workers.items new.workers.items
  pub rest : KeepsRest old new

abbrev pub RefillsBy
    : ℕ → Option (Result BankSegment NoSegment) → BankWorker → BankWorker → Type 0
RefillsBy arena result old new =
    MatchOption result (FindsBusy arena old new)
    (λ told. MatchResult told (λ segment. RefillsIn arena segment old new)
    (λ none. FindsNoSegment arena old new))
