-- Laws of the lists of a partition.
use Rattle.std.specs.Prelude.{◌≡◌, ℕ, ◌+◌, ◌≤◌, true, [], Contains}
use Rattle.hg_place.specs.Places.{page_of, segment_of, segment_of_page}
use Rattle.hg_machine.specs.Life.{is_home}
use Rattle.hg_machine.specs.State.{record_at}
use Rattle.hg_machine.specs.Sweeps.{is_sent}
use Rattle.hg_machine.specs.Lists.{Kept, IsPartition, list_at, times, is_free}

-- each list has places of its own page or segment alone: those on the free and the local-free list
-- are home, those on the thread-free and the delayed list are sent
pub record IsOnItsOwn (k : Kept) (place : ℕ) : Type 0 where
  pub free :
      (page : ℕ) → Contains (list_at k.lists.free page) place
      → (page_of place ≡ page) × (is_home (record_at k.state place).life ≡ true)
  pub local_free :
      (page : ℕ) → Contains (list_at k.lists.local_free page) place
      → (page_of place ≡ page) × (is_home (record_at k.state place).life ≡ true)
  pub thread_free :
      (page : ℕ) → Contains (list_at k.lists.thread_free page) place
      → (page_of place ≡ page) × (is_sent k.state place ≡ true)
  pub delayed :
      (segment : ℕ) → Contains (list_at k.lists.delayed segment) place
      → (segment_of place ≡ segment) × (is_sent k.state place ≡ true)

abbrev pub ListsHaveTheirOwn : Type 0
ListsHaveTheirOwn = (k : Kept) (place : ℕ) → IsPartition k → IsOnItsOwn k place

-- a place stands at most once on any free list, any local-free list, any thread-free list and any
-- delayed list together
abbrev pub NoneStandsTwice : Type 0
NoneStandsTwice =
    (k : Kept) (place free local_free thread_free delayed : ℕ) → IsPartition k
    → times place (list_at k.lists.free free)
    + times place (list_at k.lists.local_free local_free)
    + times place (list_at k.lists.thread_free thread_free)
    + times place (list_at k.lists.delayed delayed)
    ≤ 1

-- a free place stands on one of the two free lists of its page; a sent one on the delayed list of
-- its segment or on the thread-free list of its page
pub record IsListed (k : Kept) (place : ℕ) : Type 0 where
  pub free :
      is_free k.state (page_of place) place ≡ true
      → times place (list_at k.lists.free (page_of place))
      + times place (list_at k.lists.local_free (page_of place))
      ≡ 1
  pub sent :
      is_sent k.state place ≡ true
      → times place (list_at k.lists.delayed (segment_of place))
      + times place (list_at k.lists.thread_free (page_of place))
      ≡ 1

abbrev pub EachIsListed : Type 0
EachIsListed = (k : Kept) (place : ℕ) → IsPartition k → IsListed k place

-- while a page has a thread-free place, the delayed list of its segment has a place of that page
abbrev pub ThreadFreeIsDelayed : Type 0
ThreadFreeIsDelayed =
    (k : Kept) (page place : ℕ) → IsPartition k → Contains (list_at k.lists.thread_free page) place
    → (first : ℕ) × Contains (list_at k.lists.delayed (segment_of_page page)) first
    × (page_of first ≡ page)

-- so where the delayed list of a segment is empty, each of its pages has an empty thread-free list
abbrev pub NoDelayedNoThreadFree : Type 0
NoDelayedNoThreadFree =
    (k : Kept) (page : ℕ) → IsPartition k → list_at k.lists.delayed (segment_of_page page) ≡ []
    → list_at k.lists.thread_free page ≡ []
