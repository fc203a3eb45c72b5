-- What comes of a service that doesn't close.
use Rattle.std.specs.Prelude.{◌≡◌, Option, MatchOption, length}
use Rattle.crossbeam_queue.specs.Passes.{view}
use Rattle.hg_close.specs.Closed.{AreLost}
use Rattle.hg_close.specs.declared.fault.CloseFault.{CloseFault}
use Rattle.hg_close.specs.declared.fault.CloseFault.TheVariants as fault
use Rattle.hg_worker.specs.Missing.{IsFirstMissing}
use Rattle.hg_worker.specs.Seats.{number_in}
use Rattle.hg_hosted.specs.declared.closing.HostedUnclosed.{HostedUnclosed}
use Rattle.hg_hosted.specs.declared.closing.HostedUnclosed.TheVariants as unclosed
use Rattle.hg_hosted.specs.declared.parts.Segments.{Segments}
use Rattle.hg_hosted.specs.declared.service.HostedService.{HostedService}
use Rattle.hg_hosted.specs.Coming.{HaveCome, IsFirstOut, StayCome}
use Rattle.hg_hosted.specs.Parking.{HasTaken}
use Rattle.hg_hosted.specs.Places.{HaveSamePlaces}
use Rattle.hg_hosted.specs.Shared.{table_of_shared}

-- memory is refused, and nothing is done; a worker hasn't come; or each has, and this is the lowest
-- segment that isn't among those that stood there, or 0 where they didn't
abbrev pub GoesOnFor : HostedService → CloseFault → HostedService → Type 0
GoesOnFor old fault.Memory new = new ≡ old
GoesOnFor old (fault.StillOut worker) new = IsFirstOut new.policy new.came.items worker
GoesOnFor old (fault.StillHeld segment) new =
    HaveCome new.policy new.came.items × (there : Option Segments)
    × HasTaken there old.shared.segments.kept (view old.shared.segments.pass).taken
    (view new.shared.segments.pass).taken
    × MatchOption there (segment ≡ 0)
    (λ segments. IsFirstMissing number_in segments.pool (length old.policy.segments) segment)

-- it goes on for this reason, with its policy, table and places, and who has come is there still
pub record GoesOn (old : HostedService) (why : CloseFault) (new : HostedService) : Type 0 where
  pub policy : new.policy ≡ old.policy
  pub table : table_of_shared new.shared ≡ table_of_shared old.shared
  pub places : HaveSamePlaces old.shared new.shared
  pub came : StayCome old.came.items new.came.items
  pub reason : GoesOnFor old why new

-- it goes on, or a place of parts of its policy is lost
abbrev pub IsUnclosed : HostedService → HostedUnclosed → Type 0
IsUnclosed old (unclosed.Running new why) = GoesOn old why new
IsUnclosed old (unclosed.Lost place parts) = AreLost old.policy place parts
