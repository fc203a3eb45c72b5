-- Queues of pages, by the number of their key.
use Rattle.std.specs.Prelude.{◌≡◌, ℕ, ◌<◌, List, [], length, slice_index_or, Contains}
use Rattle.hg_lists.specs.Repeats.{HasNoRepeats}
use Rattle.hg_lists.specs.Lists.{Lists, AreApart}
use Rattle.hg_queue.specs.declared.page_queues.TheConstants.{PAGES, KEYS}

-- the pages of a key
abbrev pub queue_of : List (List ℕ) → ℕ → List ℕ
queue_of queues key = slice_index_or queues key []

-- the page stands in a queue
abbrev pub IsQueued : List (List ℕ) → ℕ → Type 0
IsQueued queues page = (key : ℕ) × Contains (queue_of queues key) page

-- there is a queue for each key, and each page stands at most once in all of them together
pub record AreQueues (queues : List (List ℕ)) : Type 0 where
  pub all : length queues ≡ KEYS
  pub below : (key page : ℕ) → Contains (queue_of queues key) page → page < PAGES
  pub once : (key : ℕ) → HasNoRepeats (queue_of queues key)
  pub alone : (page key other : ℕ)
      → Contains (queue_of queues key) page → Contains (queue_of queues other) page → key ≡ other

-- lists that are queues of pages
pub record IsRight (lists : Lists) : Type 0 where
  pub keys : length lists.by_key ≡ KEYS
  pub pages : lists.entries ≡ PAGES
  pub apart : AreApart lists
