-- What a worker's calls do behind a lock: each is its caller-locked form on the list, or the pool, as
-- it stood there when the lock was taken. What stood there no clause says.
use Rattle.std.specs.Prelude.{◌≡◌, ◌≤◌, ◌%◌, ℕ, List, Option, ◌++◌, Contains}
use Rattle.hg_place.specs.declared.geometry.TheConstants.{SEGMENT_PLACES}
use Rattle.hg_place.specs.declared.Handle.{Handle}
use Rattle.hg_place.specs.declared.standing.Standing.{Standing}
use Rattle.hg_machine.specs.declared.Answer.{Answer}
use Rattle.hg_machine.specs.declared.Answer.TheVariants as answer
use Rattle.hg_machine.specs.Policy.{Policy}
use Rattle.hg_heap.specs.Held.{Held, is_held, segment_in}
use Rattle.hg_heap.specs.Homecoming.{HaveComeHome}
use Rattle.hg_heap.specs.Policies.{AreOf}
use Rattle.hg_pool.specs.Pooled.{Pooled, next_in}
use Rattle.hg_remote.specs.Remote.{Remote, contents}
use Rattle.hg_table.specs.declared.view.Part.{Part}
use Rattle.hg_place.specs.Places.{segment_of}
use Rattle.hg_worker.specs.Had.{Had}
use Rattle.hg_worker.specs.Records.{GoHome}
use Rattle.hg_worker.specs.CallerLocked.{IsDelivered, IsTakenFrom, IsRefilled, IsAbandoned}

-- what is in hand goes to a list, unless that has it
pub record Delivers (hand : Option Handle) (result : Answer) (hand' : Option Handle)
    : Type 0 where
  pub old : Remote
  pub new : Remote
  pub delivered : IsDelivered hand result old new hand'

module _ {S : Type 0} (number : S → ℕ) where
  module _ (records : S → List Standing) where
    -- what was sent to a held segment comes home from a list
    pub record Takes (shows : S → ℕ → ℕ → Type 0) (steps : S → ℕ → ℕ → ℕ → S → Type 0)
        (segment : ℕ) (result : Answer) (heap heap' : Held S) : Type 0 where
      pub old : Remote
      pub new : Remote
      pub taken :
          IsTakenFrom number records shows steps (is_held number heap.segments segment) segment
          result old new heap heap'
      pub whole :
          (count : ℕ) → result ≡ answer.Taken count → (count ≤ SEGMENT_PLACES)
          × HaveComeHome number records segment (contents old) heap.segments heap'.segments count
      pub home :
          GoHome number records
          (λ place. (segment_of place ≡ segment) × Contains (contents old) (place % SEGMENT_PLACES))
          heap.segments heap'.segments

    -- a segment of the arena comes from a pool of segments that are as the policy has them
    pub record Refills (part : S → Part) (policy : Policy) (arena : ℕ) (result : Answer)
        (had had' : Had S) : Type 0 where
      pub old : Pooled S
      pub new : Pooled S
      pub of : AreOf number policy (old.orphans ++ old.fresh)
      pub refilled : IsRefilled number records part (next_in old arena) result old new had had'

  -- a segment that is held goes to a pool
  pub record Abandons (segment : ℕ) (result : Answer) (heap heap' : Held S) : Type 0 where
    pub old : Pooled S
    pub new : Pooled S
    pub abandoned :
        IsAbandoned number segment (segment_in number heap.segments segment) result old new
        heap heap'
