-- What the calls on lists and pools do that the caller has locked.
use Rattle.std.specs.Prelude.{◌≡◌, ◌⊎◌, ℕ, Bool, true, false, List, [], ◌∷◌, ◌++◌, Option, Some}
use Rattle.std.specs.Prelude.{None, Contains, reverse}
use Rattle.hg_place.specs.declared.Handle.{Handle}
use Rattle.hg_place.specs.declared.standing.Standing.{Standing}
use Rattle.hg_machine.specs.declared.Answer.{Answer}
use Rattle.hg_machine.specs.declared.Answer.TheVariants as answer
use Rattle.hg_segment.specs.Kept.{Kept}
use Rattle.hg_heap.specs.Held.{Held}
use Rattle.hg_heap.specs.Entering.{pages_of_key}
use Rattle.hg_heap.specs.Releasing.{without_segment as without, without_pages}
use Rattle.hg_heap.specs.Taking.{Takes}
use Rattle.hg_pool.specs.Pooled.{Pooled, without_segment}
use Rattle.hg_remote.specs.Remote.{Remote, slot, contents, nothing_sent}
use Rattle.hg_remote.specs.Order.{drained}
use Rattle.hg_remote.specs.Sends.{sent}
use Rattle.hg_queue.specs.Queues.{queue_of}
use Rattle.hg_table.specs.declared.view.Part.{Part}
use Rattle.hg_worker.specs.Had.{Had}
use Rattle.hg_worker.specs.Met.{ComesTo}

-- What is in hand goes to the list, unless that has it; an empty hand changes nothing
abbrev pub IsDelivered : Option Handle → Answer → Remote → Remote → Option Handle → Type 0
IsDelivered None result old new hand =
    (result ≡ answer.NothingInHand) × (new ≡ old) × (hand ≡ None)
IsDelivered (Some handle) result old new hand =
    ((result ≡ answer.Done) × (hand ≡ None)
    × (Contains (contents old) (slot handle.place.page handle.place.index) → ⊥)
    × (new ≡ sent old handle.place.page handle.place.index))
    ⊎ ((result ≡ answer.Busy) × (hand ≡ Some handle)
    × Contains (contents old) (slot handle.place.page handle.place.index) × (new ≡ old))

module _ {S : Type 0} (number : S → ℕ) where
  -- The segment that comes next from the pool is the heap's last, and its pages with a place to
  -- give out are in front of their queues; without one nothing changes
  abbrev pub IsRefilled
      : (S → List Standing) → (S → Part) → Option (Kept S) → Answer → Pooled S → Pooled S → Had S
      → Had S → Type 0
  IsRefilled records part None result old new had had' =
      (result ≡ answer.NoSegment) × (new ≡ old) × (had' ≡ had)
  IsRefilled records part (Some one) result old new had had' =
      (result ≡ answer.Refilled (number one.slots))
      × (new ≡ without_segment number old (number one.slots)) × (one' : Kept S)
      × ComesTo number records part had.hand one one' had.own had'.own
      × (had'.heap.segments ≡ had.heap.segments ++ one' ∷ [])
      × ((key : ℕ)
      → queue_of had'.heap.queues key
      ≡ reverse (pages_of_key number one' key) ++ queue_of had.heap.queues key)

  -- a segment that is held is the pool's last orphan; else nothing changes
  abbrev pub IsAbandoned
      : ℕ → Option (Kept S) → Answer → Pooled S → Pooled S → Held S → Held S → Type 0
  IsAbandoned segment None result old new heap heap' =
      (result ≡ answer.NotHeld) × (new ≡ old) × (heap' ≡ heap)
  IsAbandoned segment (Some one) result old new heap heap' =
      (result ≡ answer.Done) × (new.orphans ≡ old.orphans ++ one ∷ []) × (new.fresh ≡ old.fresh)
      × (heap'.segments ≡ without number heap.segments segment)
      × (heap'.queues ≡ without_pages segment heap.queues)

  -- what was sent to a segment that is held comes home, place by place; else nothing changes
  module _ (records : S → List Standing) (shows : S → ℕ → ℕ → Type 0)
      (steps : S → ℕ → ℕ → ℕ → S → Type 0) where
    abbrev pub IsTakenFrom
        : Bool → ℕ → Answer → Remote → Remote → Held S → Held S → Type 0
    IsTakenFrom false segment result old new heap heap' =
        (result ≡ answer.NotHeld) × (new ≡ old) × (heap' ≡ heap)
    IsTakenFrom true segment result old new heap heap' =
        (count : ℕ) × (result ≡ answer.Taken count) × (new ≡ nothing_sent)
        × Takes number records shows steps segment (drained old) heap heap' count
