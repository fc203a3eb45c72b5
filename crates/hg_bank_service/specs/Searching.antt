-- How a search for a block or a segment ends.
use Rattle.std.specs.Prelude.{◌≡◌, ℕ, List, length, Option, Some, None, MatchOption}
use Rattle.hg_place.specs.declared.Actor.{Actor}
use Rattle.hg_machine.specs.declared.Answer.{Answer}
use Rattle.hg_machine.specs.declared.Answer.TheVariants as answer
use Rattle.hg_machine.specs.Policy.{Policy}
use Rattle.hg_bank.specs.declared.bank.BankHandle.{BankHandle}
use Rattle.hg_hosted.specs.declared.worker.HostedWorker.{HostedWorker}
use Rattle.hg_bank_service.specs.Allocating.{GivesBlock, RefusesBlock}
use Rattle.hg_bank_service.specs.Choosing.{AreAsked, IsServed}
use Rattle.hg_bank_service.specs.Has.{AreNumbered}
use Rattle.hg_bank_service.specs.Refilling.{AnswersRefill, RefillWaits}
use Rattle.hg_bank_service.specs.Sums.{AreSums}
use Rattle.hg_bank_service.specs.declared.refilling.Found.{Found}
use Rattle.hg_bank_service.specs.declared.refilling.Found.TheVariants as found

-- it ends so, and leaves as many workers, of this policy and number, whose sums the row has
pub record IsSearched (policy : Policy) (number : ℕ)
    (Ends : List HostedWorker → List HostedWorker → Type 0) (old new : List HostedWorker)
    (row : List ℕ) : Type 0 where
  pub ends : Ends old new
  pub all : length new ≡ length old
  pub of : AreNumbered policy number new
  pub counted : AreSums (length policy.tenants) row new

-- the first core that has a place gives the block; or each core was asked, and none has one
abbrev pub EndsInBlock
    : Actor → ℕ → ℕ → ℕ → Option BankHandle → List HostedWorker → List HostedWorker → Type 0
EndsInBlock actor arena bytes current result old new =
    MatchOption result (AreAsked (RefusesBlock actor arena bytes) current (length old) old new)
    (λ block. IsServed (RefusesBlock actor arena bytes)
    (GivesBlock actor arena bytes (answer.Block block.handle)) current block.core old new)

-- the segment that an answer gives
abbrev pub segment_given : Answer → Option ℕ
segment_given (answer.Refilled segment) = Some segment
segment_given other = None

-- those before a core have none, and it gives one, or another call has its segments; or none has one
abbrev pub EndsSo : ℕ → ℕ → Found → List HostedWorker → List HostedWorker → Type 0
EndsSo arena current (found.Segment segment) old new =
    IsServed (AnswersRefill arena answer.NoSegment)
    (AnswersRefill arena (answer.Refilled segment.segment)) current segment.core old new
EndsSo arena current (found.Busy core) old new =
    IsServed (AnswersRefill arena answer.NoSegment) (RefillWaits arena) current core old new
EndsSo arena current found.Nothing old new =
    AreAsked (AnswersRefill arena answer.NoSegment) current (length old) old new
