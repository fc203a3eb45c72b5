-- The parts of a core that serves all workers' events itself, and the state with lists for which
-- they stand.
use Rattle.std.specs.Prelude.{◌≡◌, ℕ, ◌+◌, ◌*◌, ◌%◌, ◌==◌, ◌<◌, Bool, true, false, not, List, []}
use Rattle.std.specs.Prelude.{◌++◌, length, Option, Some, None, IfSome, find, map, slice_index_or}
use Rattle.std.specs.List.{list_any, range_with_len}
use Rattle.hg_place.specs.declared.geometry.TheConstants.{SEGMENT_PLACES, SEGMENT_PAGES}
use Rattle.hg_place.specs.declared.geometry.TheConstants.{PAGE_PLACES}
use Rattle.hg_place.specs.Places.{segment_of, segment_of_page}
use Rattle.hg_place.specs.Slots.{slot_in}
use Rattle.hg_place.specs.declared.plain.PlainWords.{PlainWords}
use Rattle.hg_place.specs.Plain.{plain_words, plain_records}
use Rattle.hg_page.specs.PageLists.{PageLists}
use Rattle.hg_segment.specs.Kept.{no_lists, lists_at}
use Rattle.hg_segment.specs.Kept.{Kept as KeptSegment}
use Rattle.hg_place.specs.Standings.{standing_generation, standing_at}
use Rattle.hg_machine.specs.Policy.{Policy}
use Rattle.hg_machine.specs.Life.{Record, never_used}
use Rattle.hg_machine.specs.State.{State, Holder, fresh, orphan, held}
use Rattle.hg_machine.specs.Soundness.{IsSound}
use Rattle.hg_machine.specs.Lists.{Lists, Kept}
use Rattle.hg_agreement.specs.Views.{Shown, IsWordOf}
use Rattle.hg_agreement.specs.Agreement.{Agrees}
use Rattle.hg_agreement.specs.Witness.{held_life}
use Rattle.hg_agreement.specs.Holdings.{Holding, holding_from, block_of, class_of, has, view_of}

-- a segment over plain words: its arena and the greatest generation of its places, what is kept of
-- it, the slot word of each place, and the lists of each page, of indexes
pub record Plain : Type 0 where
  pub arena : ℕ
  pub greatest : ℕ
  pub holding : Holding
  pub slots : List ℕ
  pub lists : List PageLists

-- a segment as its callers see it, over plain words
abbrev pub plain_from : KeptSegment PlainWords → Plain
plain_from s = record {
  arena = s.arena;
  greatest = s.greatest;
  holding = holding_from s.slots.segment (plain_records s.slots) s;
  slots = plain_words s.slots;
  lists = s.lists;
}

-- a remote list: places of a segment, by their numbers in it
pub record Remote : Type 0 where
  pub delayed : List ℕ
  pub thread_free : List (List ℕ)

-- the heap of each worker, the remote list of each segment, the orphans, oldest first, and the
-- fresh segments, which nobody holds, what each worker has in hand, and by worker and key the pages
-- that stand in the queues of its heap
pub record Parts : Type 0 where
  pub policy : Policy
  pub heaps : List (List Plain)
  pub remotes : List Remote
  pub orphans : List Plain
  pub fresh : List Plain
  pub hands : List (Option ℕ)
  pub queues : List (List (List ℕ))

-- the numbers of all places, pages and segments of the policy
abbrev pub all_places : Parts → List ℕ
all_places parts = range_with_len 0 (length parts.policy.segments * SEGMENT_PLACES)

abbrev pub all_pages : Parts → List ℕ
all_pages parts = range_with_len 0 (length parts.policy.segments * SEGMENT_PAGES)

abbrev pub all_segments : Parts → List ℕ
all_segments parts = range_with_len 0 (length parts.policy.segments)

-- the segment is the one of this number
abbrev pub is_of : ℕ → Plain → Bool
is_of segment one = one.holding.number == segment

-- the heap of a worker, and what is kept of its segments
abbrev pub heap_at : Parts → ℕ → List Plain
heap_at parts worker = slice_index_or parts.heaps worker []

abbrev pub holdings : List Plain → List Holding
holdings = map (λ one. one.holding)

-- the worker in whose heap it is
abbrev pub worker_of : Parts → ℕ → Option ℕ
worker_of parts segment =
    find (λ worker. has (holdings (heap_at parts worker)) segment)
    (range_with_len 0 (length parts.heaps))

-- a segment, wherever it is: in that heap, or with those that nobody holds
abbrev pub plain_by : Parts → ℕ → Option ℕ → Option Plain
plain_by parts segment (Some worker) = find (is_of segment) (heap_at parts worker)
plain_by parts segment None = find (is_of segment) (parts.orphans ++ parts.fresh)

abbrev pub plain_of : Parts → ℕ → Option Plain
plain_of parts segment = plain_by parts segment (worker_of parts segment)

-- what a place is, by its standing and its slot word
abbrev pub record_by : Option Plain → ℕ → Record
record_by None at = never_used
record_by (Some one) at = record {
  generation = standing_generation (standing_at one.holding.standings at);
  life = held_life (not (slot_in (slice_index_or one.slots at 0)).live)
      (standing_at one.holding.standings at) (block_of one.holding at);
}

-- the class of a page of it
abbrev pub class_by : Option Plain → ℕ → Option ℕ
class_by None page = None
class_by (Some one) page = class_of one.holding page

-- what is told of a place, a page and a segment by its number
abbrev pub record_of : Parts → ℕ → Record
record_of parts place = record_by (plain_of parts (segment_of place)) (place % SEGMENT_PLACES)

abbrev pub page_class : Parts → ℕ → Option ℕ
page_class parts page = class_by (plain_of parts (segment_of_page page)) (page % SEGMENT_PAGES)

abbrev pub holder_by : Option ℕ → Bool → Holder
holder_by (Some worker) is_left = held worker
holder_by None true = orphan
holder_by None false = fresh

abbrev pub holder_of : Parts → ℕ → Holder
holder_of parts segment =
    holder_by (worker_of parts segment) (list_any (is_of segment) parts.orphans)

-- the state for which the parts stand
abbrev pub state_of : Parts → State
state_of parts = record {
  policy = parts.policy;
  records = map (record_of parts) (all_places parts);
  classes = map (page_class parts) (all_pages parts);
  holders = map (holder_of parts) (all_segments parts);
  orphans = map (λ one. one.holding.number) parts.orphans;
  hands = parts.hands;
}

-- the places of a list of indexes of a page, and of a list of a segment
abbrev pub places_from : ℕ → List ℕ → List ℕ
places_from first numbers = map (λ n. first + n) numbers

-- the lists of a page
abbrev pub lists_by : Option Plain → ℕ → PageLists
lists_by None page = no_lists
lists_by (Some one) page = lists_at one.lists page

abbrev pub lists_on : Parts → ℕ → PageLists
lists_on parts page = lists_by (plain_of parts (segment_of_page page)) (page % SEGMENT_PAGES)

-- the remote list of a segment
abbrev pub no_remote : Remote
no_remote = record { delayed = []; thread_free = [] }

abbrev pub remote_at : Parts → ℕ → Remote
remote_at parts segment = slice_index_or parts.remotes segment no_remote

abbrev pub thread_at : Remote → ℕ → List ℕ
thread_at remote page = slice_index_or remote.thread_free page []

-- the places of each list, by page and by segment
abbrev pub free_of : Parts → ℕ → List ℕ
free_of parts page = places_from (page * PAGE_PLACES) (lists_on parts page).free

abbrev pub local_of : Parts → ℕ → List ℕ
local_of parts page = places_from (page * PAGE_PLACES) (lists_on parts page).local_free

abbrev pub thread_of : Parts → ℕ → List ℕ
thread_of parts page =
    places_from (segment_of_page page * SEGMENT_PLACES)
    (thread_at (remote_at parts (segment_of_page page)) (page % SEGMENT_PAGES))

abbrev pub delayed_of : Parts → ℕ → List ℕ
delayed_of parts segment = places_from (segment * SEGMENT_PLACES) (remote_at parts segment).delayed

-- the lists for which the parts stand
abbrev pub lists_of : Parts → Lists
lists_of parts = record {
  free = map (free_of parts) (all_pages parts);
  local_free = map (local_of parts) (all_pages parts);
  thread_free = map (thread_of parts) (all_pages parts);
  delayed = map (delayed_of parts) (all_segments parts);
}

-- what a core is seen as
abbrev pub kept_of : Parts → Kept
kept_of parts =
    record { state = state_of parts; lists = lists_of parts; queues = parts.queues }

-- each segment of a heap is one of the policy's, and stands in that heap alone
pub record IsSorted (parts : Parts) : Type 0 where
  pub below :
      (worker segment : ℕ) → has (holdings (heap_at parts worker)) segment ≡ true
      → segment < length parts.policy.segments
  pub one_heap :
      (worker other segment : ℕ) → has (holdings (heap_at parts worker)) segment ≡ true
      → has (holdings (heap_at parts other)) segment ≡ true → worker ≡ other

-- what a step on a place of the policy's shows: the slot word that its segment has
pub record IsWordIn (parts : Parts) (shown : Shown) : Type 0 where
  pub within : shown.place < length parts.policy.segments * SEGMENT_PLACES
  pub one : Plain
  pub there : plain_of parts (segment_of shown.place) ≡ Some one
  pub word : shown.word ≡ slice_index_or one.slots (shown.place % SEGMENT_PLACES) 0
  pub fits : IsWordOf (standing_at one.holding.standings (shown.place % SEGMENT_PLACES)) shown.word

-- the state of a core agrees with each worker's view of its heap, and with the slot word of any
-- place, which is what a step there shows
abbrev pub HeapsAgree : Type 0
HeapsAgree =
    (parts : Parts) (worker : ℕ) (generation : ℕ) (shown : Option Shown) → IsSound (state_of parts)
    → IsSorted parts → worker < length parts.heaps
    → IfSome shown (IsWordIn parts)
    → Agrees (state_of parts)
    (view_of parts.policy worker (slice_index_or parts.hands worker None) generation
    (holdings (heap_at parts worker)))
    shown
