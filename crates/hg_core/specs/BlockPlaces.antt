-- How many places the blocks of a page have, of a segment that a worker holds.
use Rattle.std.specs.Prelude.{◌≡◌, ℕ, ◌+◌, ◌*◌, ◌<◌, ◌≤◌, nat_lt, Option, Some, None}
use Rattle.std.specs.Prelude.{if◌then◌else◌}
use Rattle.hg_place.specs.declared.geometry.TheConstants.{SEGMENT_PAGES, PAGE_PLACES}
use Rattle.hg_heap.specs.BlockPlaces.{places_by}
use Rattle.hg_machine.specs.Life.{home}
use Rattle.hg_machine.specs.State.{State, record_at, class_at, holder_at}
use Rattle.hg_core.specs.Held.{worker_in}

-- those of this class where a worker holds the segment, and else none
abbrev pub places_held : Option ℕ → Option ℕ → ℕ
places_held None class = 0
places_held (Some worker) class = places_by class

-- how many places the blocks of the page have: those of its class; none where nobody holds the
-- segment, where there is no such page, and where the page has no class
abbrev pub block_places : State → ℕ → ℕ → ℕ
block_places s segment page =
    if nat_lt page SEGMENT_PAGES
    then places_held (worker_in (holder_at s segment)) (class_at s (segment * SEGMENT_PAGES + page))
    else 0

-- the number of the first place of a page of a segment
abbrev pub first_place : ℕ → ℕ → ℕ
first_place segment page = (segment * SEGMENT_PAGES + page) * PAGE_PLACES

-- each place of the page from this index on is home
abbrev pub AreHomeFrom : State → ℕ → ℕ → ℕ → Type 0
AreHomeFrom s segment page first =
    (index : ℕ) → first ≤ index → index < PAGE_PLACES
    → (record_at s (first_place segment page + index)).life ≡ home
