-- How a heap's segments, table, queues and charges go together.
use Rattle.std.specs.Prelude.{◌≡◌, ℕ, ◌<◌, List, Contains, length, slice_index, Option}
use Rattle.hg_place.specs.declared.geometry.TheConstants.{MAX_SEGMENTS}
use Rattle.hg_place.specs.declared.standing.Standing.{Standing}
use Rattle.hg_queue.specs.declared.page_queues.TheConstants.{ARENAS}
use Rattle.hg_segment.specs.declared.charges.TheConstants.{TENANTS}
use Rattle.hg_segment.specs.Kept.{Kept}
use Rattle.hg_heap.specs.Held.{Held}
use Rattle.hg_heap.specs.Table.{IsTabled}
use Rattle.hg_heap.specs.Queues.{AreQueued}
use Rattle.hg_heap.specs.Charges.{charge_in}
use Rattle.hg_heap.specs.Settled.{IsSettled}

module _ {S : Type 0} (number : S → ℕ) (records : S → List Standing) where
  -- each segment is found by its number, is as it promises, and of an arena that there may be; there
  -- is room for all; each page stands in the queue where it belongs; each tenant's charge is counted
  pub record IsRight (table : List (Option ℕ)) (charges : List ℕ) (capacity : ℕ) (held : Held S)
      : Type 0 where
    pub tabled : IsTabled number table held.segments
    pub room : capacity ≡ MAX_SEGMENTS
    pub settled : (k : Kept S) → Contains held.segments k → IsSettled records k
    pub arenas : (k : Kept S) → Contains held.segments k → k.arena < ARENAS
    pub queued : AreQueued number held
    pub counted : length charges ≡ TENANTS
    pub charged :
        (tenant : ℕ) → tenant < TENANTS
        → slice_index charges tenant ≡ charge_in records held.segments tenant
