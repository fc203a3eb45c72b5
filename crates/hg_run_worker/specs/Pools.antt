-- The pool of a table that keeps one run: its part of the run, by the segments that no worker holds.
use Rattle.std.specs.Prelude.{◌≡◌, ℕ, ◌%◌, ◌==◌, Bool, true, false, nat_lt, List, [], ◌∷◌, ◌++◌, length, map, reverse}
use Rattle.std.specs.Prelude.{Option, Some, None, Contains, if◌then◌else◌}
use Rattle.std.specs.List.{list_any}
use Rattle.atomic_table.specs.Seated.{TableId}
use Rattle.hg_place.specs.declared.geometry.TheConstants.{SEGMENT_PAGES, SEGMENT_PLACES}
use Rattle.hg_place.specs.Places.{segment_of, segment_of_page}
use Rattle.hg_machine.specs.declared.Answer.{Answer}
use Rattle.hg_machine.specs.declared.Answer.TheVariants as answer
use Rattle.hg_machine.specs.Policy.{Policy}
use Rattle.hg_segment.specs.Kept.{Kept}
use Rattle.hg_pool.specs.Pooled.{Pooled, numbers, without_segment}
use Rattle.hg_agreement.specs.Holdings.{Holding, holding_of, class_told, standing_told, block_told}
use Rattle.hg_queue.specs.Queues.{queue_of}
use Rattle.hg_heap.specs.Entering.{pages_of_key}
use Rattle.hg_heap.specs.Policies.{AreOf}
use Rattle.hg_heap.specs.Ties.{holding}
use Rattle.hg_roles.specs.Roles as roles
use Rattle.hg_run_table.specs.declared.segment.RunSegment.{RunSegment}
use Rattle.hg_run_table.specs.JoinedCalls.{IsOthers}
use Rattle.hg_run_worker.specs.declared.pool.RunPool.{RunPool}
use Rattle.hg_run_worker.specs.AtWork.{IsSeated, number_in, records_in}

-- all segments of a pool, orphans first
abbrev pub pooled_in : Pooled RunSegment → List (Kept RunSegment)
pooled_in pool = pool.orphans ++ pool.fresh

abbrev pub holdings_in : Pooled RunSegment → List Holding
holdings_in pool = map (holding number_in records_in) (pooled_in pool)

-- What the pool's part has: the orphans in their order; which segments of the policy are fresh; of each segment
-- that is there the class of each page, the standing of each place and the words of its block. (Of a number that
-- no segment of the policy has it says what a new table says: that it is fresh.)
abbrev pub pool_part : Policy → Pooled RunSegment → roles.Pooled
pool_part policy pool = record {
  orphans = numbers number_in pool.orphans;
  fresh = λ segment.
      if nat_lt segment (length policy.segments)
      then list_any (λ n. n == segment) (numbers number_in pool.fresh)
      else true;
  class = λ page.
      class_told (holding_of (holdings_in pool) (segment_of_page page)) (page % SEGMENT_PAGES);
  standing = λ place.
      standing_told (holding_of (holdings_in pool) (segment_of place)) (place % SEGMENT_PLACES);
  block = λ place.
      block_told (holding_of (holdings_in pool) (segment_of place)) (place % SEGMENT_PLACES);
}

-- The pool's part of the run is in a seat of the table that has nothing of words and lives, and has what the pool
-- has; its segments are as the policy has them, and the seat of each has its own part alone
pub record IsPoolOf (id : TableId) (policy : Policy) (pool : RunPool) : Type 0 where
  pub same : pool.call.seat.table_id ≡ id
  pub bare : pool.call.seat.me.0.lives ≡ []
  pub part : IsOthers pool.call (roles.of_pool (pool_part policy pool.pool))
  pub of : AreOf number_in policy (pooled_in pool.pool)
  pub seated : (k : Kept RunSegment) → Contains (pooled_in pool.pool) k → IsSeated id k.slots

-- the pool without the segment that a refill takes, if it takes one
abbrev pub left_pool : Option (Kept RunSegment) → Pooled RunSegment → Pooled RunSegment
left_pool None pool = pool
left_pool (Some one) pool = without_segment number_in pool (number_in one.slots)

-- what a worker holds then
abbrev pub with_taken : Option (Kept RunSegment) → List (Kept RunSegment) → List (Kept RunSegment)
with_taken None segments = segments
with_taken (Some one) segments = segments ++ one ∷ []

-- its pages that have a place to give out are in front of their queues, the greatest of a key foremost
abbrev pub QueuesTaken : Option (Kept RunSegment) → List (List ℕ) → List (List ℕ) → Type 0
QueuesTaken None old new = new ≡ old
QueuesTaken (Some one) old new =
    (key : ℕ) → queue_of new key ≡ reverse (pages_of_key number_in one key) ++ queue_of old key

-- and what it is answered
abbrev pub refill_answer : Option ℕ → Answer
refill_answer None = answer.NoSegment
refill_answer (Some segment) = answer.Refilled segment

-- the pool with a segment that was given to it, if one was, as its last orphan
abbrev pub with_orphan : Option (Kept RunSegment) → Pooled RunSegment → Pooled RunSegment
with_orphan None pool = pool
with_orphan (Some one) pool = record { orphans = pool.orphans ++ one ∷ []; fresh = pool.fresh }

-- what a worker is answered that held the segment, or didn't
abbrev pub abandon_answer : Bool → Answer
abandon_answer true = answer.Done
abandon_answer false = answer.NotHeld
