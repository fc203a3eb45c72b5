-- The places of one segment that other workers freed and sent.
use Rattle.std.specs.Prelude.{◌≡◌, ◌≢◌, ℕ, ◌+◌, ◌*◌, ◌<◌, ◌==◌, Bool, true, List, [], ◌++◌, length}
use Rattle.std.specs.Prelude.{Contains, map, slice_index_or, replicate}
use Rattle.std.specs.List.{concat, list_any}
use Rattle.hg_place.specs.declared.geometry.TheConstants.{PAGE_PLACES}
use Rattle.hg_place.specs.declared.geometry.TheConstants.{SEGMENT_PAGES, SEGMENT_PLACES}
use Rattle.hg_place.specs.Places.{page_of}
use Rattle.hg_lists.specs.Repeats.{HasNoRepeats}

-- the delayed list, and by page the thread-free list: places by their number in the segment, the
-- front of each list first
pub record Remote : Type 0 where
  pub delayed : List ℕ
  pub thread_free : List (List ℕ)

-- the number of a place in its segment
abbrev pub slot : ℕ → ℕ → ℕ
slot page index = page * PAGE_PLACES + index

-- the thread-free list of a page
abbrev pub thread_at : Remote → ℕ → List ℕ
thread_at remote page = slice_index_or remote.thread_free page []

-- all places, on one list
abbrev pub contents : Remote → List ℕ
contents remote = remote.delayed ++ concat remote.thread_free

-- a place of the page stands on the delayed list
abbrev pub is_delayed : Remote → ℕ → Bool
is_delayed remote page = list_any (λ place. page_of place == page) remote.delayed

abbrev pub nothing_sent : Remote
nothing_sent = record { delayed = []; thread_free = replicate SEGMENT_PAGES [] }

-- each page has a thread-free list, of places of its own; each place stands once in all; a page has
-- one place on the delayed list at most, and one there where its thread-free list has any
pub record IsRight (remote : Remote) : Type 0 where
  pub all : length remote.thread_free ≡ SEGMENT_PAGES
  pub below : (place : ℕ) → Contains (contents remote) place → place < SEGMENT_PLACES
  pub once : HasNoRepeats (contents remote)
  pub own : (page place : ℕ) → Contains (thread_at remote page) place → page_of place ≡ page
  pub one_delayed : HasNoRepeats (map page_of remote.delayed)
  pub behind : (page : ℕ) → thread_at remote page ≢ [] → is_delayed remote page ≡ true
