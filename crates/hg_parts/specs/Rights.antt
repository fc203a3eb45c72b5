-- What the segments and the remote lists of a core's parts keep.
use Rattle.std.specs.Prelude.{◌≡◌, ℕ, ◌+◌, ◌==◌, ◌<◌, nat_lt, Bool, List, [], ◌∷◌, ◌++◌, length}
use Rattle.std.specs.Prelude.{map, Option, Some, find, count_by, slice_index, All, Contains}
use Rattle.hg_place.specs.declared.geometry.TheConstants.{SEGMENT_PLACES, SEGMENT_PAGES}
use Rattle.hg_place.specs.Words.{bit_of}
use Rattle.hg_place.specs.Lives.{IsSlotWord}
use Rattle.hg_place.specs.Standings.{standing_at, Fits}
use Rattle.hg_page.specs.PageLists.{listed}
use Rattle.hg_segment.specs.Kept.{lists_at}
use Rattle.hg_segment.specs.Right.{AreListsRight, IsBlockPlace}
use Rattle.hg_remote.specs.Remote.{IsRight}
use Rattle.hg_remote.specs.Remote.{Remote as RemoteList}
use Rattle.hg_machine.specs.Policy.{Policy, arena_of}
use Rattle.hg_machine.specs.State.{Holder, fresh, orphan, held}
use Rattle.hg_agreement.specs.Holdings.{class_of}
use Rattle.hg_agreement.specs.HoldingLaws.{IsHoldingRight}
use Rattle.hg_agreement.specs.Parts.{Plain, Parts, Remote, remote_at}

-- the segments of heaps, from that of this worker on, each with its holder
abbrev pub held_from : ℕ → List (List Plain) → List (Holder × Plain)
held_from worker [] = []
held_from worker (heap ∷ heaps) =
    map (λ one. (held worker, one)) heap ++ held_from (worker + 1) heaps

-- all segments with their holders: those of heaps, the orphans and the fresh ones
abbrev pub segments_in : Parts → List (Holder × Plain)
segments_in parts =
    held_from 0 parts.heaps
    ++ (map (λ one. (orphan, one)) parts.orphans ++ map (λ one. (fresh, one)) parts.fresh)

abbrev pub is_numbered : ℕ → Holder × Plain → Bool
is_numbered segment entry = entry.1.holding.number == segment

-- the first segment of a number, with its holder
abbrev pub found_in : Parts → ℕ → Option (Holder × Plain)
found_in parts segment = find (is_numbered segment) (segments_in parts)

-- a segment is the policy's, by its number, arena and greatest generation; its records and classes
-- are right; each page's lists have its vacant places, which are block places, and no other; and
-- each slot word is one that fits the record of its place
pub record IsSegmentRight (policy : Policy) (one : Plain) : Type 0 where
  pub arena : arena_of policy one.holding.number ≡ Some one.arena
  pub greatest : one.greatest ≡ policy.max_generation
  pub holding : IsHoldingRight policy one.holding
  pub lists :
      (page : ℕ) → page < SEGMENT_PAGES
      → AreListsRight one.greatest one.holding.standings page (class_of one.holding page)
      (lists_at one.lists page)
  pub listed :
      (page index : ℕ) → page < SEGMENT_PAGES → Contains (listed (lists_at one.lists page)) index
      → IsBlockPlace (class_of one.holding page) index
  pub fits :
      (at : ℕ) → at < SEGMENT_PLACES
      → IsSlotWord (slice_index one.slots at)
      × Fits (standing_at one.holding.standings at) (slice_index one.slots at)

-- there is a heap and a hand for each worker and a remote list for each segment; each segment of
-- the policy stands in one heap, or once in the pool, and no other segment does; each is right
pub record AreSegmentsRight (parts : Parts) : Type 0 where
  pub heaps : length parts.heaps ≡ parts.policy.workers
  pub hands : length parts.hands ≡ parts.policy.workers
  pub remotes : length parts.remotes ≡ length parts.policy.segments
  pub once :
      (segment : ℕ)
      → count_by (is_numbered segment) (segments_in parts)
      ≡ bit_of (nat_lt segment (length parts.policy.segments))
  pub each : All (λ entry. IsSegmentRight parts.policy entry.1) (segments_in parts)

-- a remote list as its callers see it, and one that is seen so
abbrev pub remote_from : RemoteList → Remote
remote_from remote = record { delayed = remote.delayed; thread_free = remote.thread_free }

abbrev pub list_of : Remote → RemoteList
list_of remote = record { delayed = remote.delayed; thread_free = remote.thread_free }

-- it keeps what a remote list promises
abbrev pub IsRemoteRight : Remote → Type 0
IsRemoteRight remote = IsRight (list_of remote)

abbrev pub AreRemotesRight : Parts → Type 0
AreRemotesRight parts =
    (segment : ℕ) → segment < length parts.policy.segments
    → IsRemoteRight (remote_at parts segment)
