-- Why a service doesn't close.
use Rattle.std.specs.Prelude.{◌≡◌, ◌<◌, false, List, length}
use Rattle.std.specs.Box.{boxed_slice_items}
use Rattle.hg_audit.specs.declared.parts.Parts.{Parts}
use Rattle.hg_machine.specs.Policy.{Policy}
use Rattle.hg_pool.specs.Pooled.{Pooled}
use Rattle.hg_table.specs.declared.segment.UnnamedSegment.{UnnamedSegment}
use Rattle.hg_close.specs.Closed.{AreLost}
use Rattle.hg_close.specs.Moved.{AreOver}
use Rattle.hg_close.specs.declared.fault.CloseFault.{CloseFault}
use Rattle.hg_close.specs.declared.fault.CloseFault.TheVariants as fault
use Rattle.hg_worker.specs.declared.worker.Worker.{Worker as Own}
use Rattle.hg_worker.specs.Missing.{HasAll, IsFirstMissing}
use Rattle.hg_worker.specs.Seats.{number_in, records_in, seat_shows, seat_steps}
use Rattle.hg_service.specs.declared.caller_locked.CallerLocked.{CallerLocked}
use Rattle.hg_service.specs.declared.service.Service.{Service}
use Rattle.hg_service.specs.declared.unclosed.Unclosed.{Unclosed}
use Rattle.hg_service.specs.declared.unclosed.Unclosed.TheVariants as unclosed
use Rattle.hg_service.specs.declared.unclosed.UnclosedParts.{UnclosedParts}
use Rattle.hg_service.specs.declared.unclosed.UnclosedParts.TheVariants as parts
use Rattle.hg_service.specs.Back.{AreBack, IsFirstOut}
use Rattle.hg_service.specs.GivenBack.{AreListsOf}
use Rattle.hg_service.specs.Ready.{is_ready}

module _ {N : _} {own : _} {table : _} where
  -- these parts of a core, in which a place is lost
  abbrev pub IsLostOf : Parts → UnclosedParts N own table → Type 0
  IsLostOf made (parts.Running same why) = ⊥
  IsLostOf made (parts.Lost place lost) = AreLost made.policy place lost × (lost ≡ made)

module _ {N : _} {own : _} {table : _} (policy : Policy) where
  -- the first, where memory is there: a segment before a worker
  abbrev pub IsFault
      : Pooled UnnamedSegment → List (Own N own table) → CloseFault → Type 0
  IsFault pool workers (fault.StillHeld segment) =
      IsFirstMissing number_in pool (length policy.segments) segment
  IsFault pool workers fault.Memory = Unit {0}
  IsFault pool workers (fault.StillOut worker) =
      HasAll number_in pool (length policy.segments) × IsFirstOut workers policy.workers worker

  -- parts come back as they were, or a place is lost where all was given back: the parts of a core
  -- of their segments and lists
  abbrev pub AreUnclosed : CallerLocked N own table → UnclosedParts N own table → Type 0
  AreUnclosed old (parts.Running same why) =
      (same ≡ old) × IsFault old.pool.pool old.workers.items why
  AreUnclosed old (parts.Lost place lost) =
      AreLost policy place lost × HasAll number_in old.pool.pool (length policy.segments)
      × AreBack old.workers.items policy.workers
      × AreOver number_in records_in seat_shows seat_steps old.pool.pool lost.pool
      × AreListsOf old.lists.items (length policy.segments) lost.remotes.items

  -- a segment or a worker of the policy, and one that was taken. What stands behind locks no clause
  -- says
  abbrev pub MayBeFault : Service N own table → CloseFault → Type 0
  MayBeFault service (fault.StillHeld segment) = segment < length policy.segments
  MayBeFault service fault.Memory = Unit {0}
  MayBeFault service (fault.StillOut worker) =
      (worker < policy.workers)
      × (is_ready (boxed_slice_items service.workers) worker ≡ false)

  -- a service comes back as it was, or a place is lost
  abbrev pub IsUnclosed : Service N own table → Unclosed N own table → Type 0
  IsUnclosed old (unclosed.Running same why) = (same ≡ old) × MayBeFault old why
  IsUnclosed old (unclosed.Lost place lost) = AreLost policy place lost
