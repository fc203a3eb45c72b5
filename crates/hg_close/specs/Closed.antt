-- What a service closes into.
use Rattle.std.specs.Prelude.{◌≡◌, ℕ, false, List, [], None, slice_index_or}
use Rattle.std.specs.List.{AllByRecursion}
use Rattle.hg_place.specs.declared.Place.{Place}
use Rattle.hg_place.specs.declared.standing.Standing.{Standing}
use Rattle.hg_place.specs.Places.{number_of}
use Rattle.hg_machine.specs.Holders.{holds}
use Rattle.hg_machine.specs.Lists.{Kept, IsPartition}
use Rattle.hg_machine.specs.Policy.{Policy}
use Rattle.hg_machine.specs.Soundness.{IsSound}
use Rattle.hg_machine.specs.State.{hand_of}
use Rattle.hg_pool.specs.Pooled.{Pooled}
use Rattle.hg_remote.specs.Remote.{Remote}
use Rattle.hg_agreement.specs.Parts.{kept_of}
use Rattle.hg_events.specs.Core.{Core, parts_of}
use Rattle.hg_parts.specs.Audit.{IsFirstPlace}
use Rattle.hg_audit.specs.declared.faults.AuditFault.{AuditFault}
use Rattle.hg_audit.specs.declared.faults.AuditFault.TheVariants as fault
use Rattle.hg_audit.specs.declared.parts.Parts.{Parts}
use Rattle.hg_audit.specs.Handed.{parts_in, IsComplete}
use Rattle.hg_close.specs.Moved.{AreOver}

-- a core of this policy, sound, with lists that are a partition, in which nobody holds a segment
-- and each hand is empty
pub record IsQuiet (policy : Policy) (core : Kept) : Type 0 where
  pub policy_is : core.state.policy ≡ policy
  pub sound : IsSound core.state
  pub partition : IsPartition core
  pub unheld : (worker segment : ℕ) → holds core.state worker segment ≡ false
  pub hands : (worker : ℕ) → hand_of core.state worker ≡ None

-- an audit found a place
abbrev pub IsPlace : AuditFault → Type 0
IsPlace (fault.Segment segment) = ⊥
IsPlace (fault.Place place) = Unit {0}
IsPlace fault.Memory = ⊥

-- parts of this policy, in which nobody holds a segment and each hand is empty, whose first fault is
-- that this place isn't accounted for
pub record AreLost (policy : Policy) (place : Place) (parts : Parts) : Type 0 where
  pub policy_is : parts.policy ≡ policy
  pub complete : IsComplete parts
  pub heaps : AllByRecursion (λ heap. heap.segments ≡ []) parts.heaps.items
  pub hands : (worker : ℕ) → slice_index_or parts.hands.items worker None ≡ None
  pub first : IsFirstPlace (parts_in parts) (number_of place)

module _ {S : Type 0} (number : S → ℕ) (records : S → List Standing)
    (shows : S → ℕ → ℕ → Type 0) (steps : S → ℕ → ℕ → ℕ → S → Type 0) where
  -- the core's segments are those of this pool, over plain words, and its remote lists are these
  pub record IsMadeOf (pool : Pooled S) (remotes : List Remote) (core : Kept) : Type 0 where
    pub parts : Core
    pub over : AreOver number records shows steps pool parts.pool
    pub lists : parts.remotes ≡ remotes
    pub is : core ≡ kept_of (parts_of parts)
