-- Pages of a heap that have a class and no open place.
use Rattle.std.specs.Prelude.{◌≡◌, ℕ, ◌%◌, ◌&&◌, Bool, false, not, List, [], Option, Some, None}
use Rattle.std.specs.Prelude.{filter, map, count_by, is_some, if◌then◌else◌}
use Rattle.std.specs.List.{list_all, range_with_len}
use Rattle.hg_place.specs.declared.geometry.TheConstants.{SEGMENT_PAGES, PAGE_PLACES}
use Rattle.hg_place.specs.declared.standing.Standing.{Standing}
use Rattle.hg_place.specs.Places.{segment_of_page}
use Rattle.hg_place.specs.Standings.{standing_at, is_home}
use Rattle.hg_page.specs.PageLists.{freed}
use Rattle.hg_segment.specs.Kept.{Kept, slot}
use Rattle.hg_segment.specs.Kept.{class_at as class_in}
use Rattle.hg_heap.specs.Held.{Held, segment_in, lists_on, class_on, all_pages}

-- all that a segment has but the classes and the lists of its pages
abbrev pub bare : {S : Type 0} → Kept S → Kept S
bare k = record k { classes = []; lists = [] }

module _ {S : Type 0} (number : S → ℕ) (records : S → List Standing) where
  abbrev pub is_idle_by : Option (Kept S) → ℕ → Bool
  is_idle_by None page = false
  is_idle_by (Some k) page =
      is_some (class_in k.classes page)
      && list_all (λ index. is_home (standing_at (records k.slots) (slot page index)))
      (range_with_len 0 PAGE_PLACES)

  -- the page, by its number over all segments, has a class and no open place
  abbrev pub is_idle : List (Kept S) → ℕ → Bool
  is_idle segments page =
      is_idle_by (segment_in number segments (segment_of_page page)) (page % SEGMENT_PAGES)

  -- how many there are
  abbrev pub idle_pages : List (Kept S) → ℕ
  idle_pages segments = count_by (is_idle segments) all_pages

  -- their lists are empty now, those of other pages as they were; and they stand in no queue, the
  -- others as they stood
  pub record IdleAreOut (old new : Held S) : Type 0 where
    pub lists :
        (page : ℕ)
        → lists_on number new.segments page
        ≡ (if is_idle old.segments page
        then freed (lists_on number old.segments page) []
        else lists_on number old.segments page)
    pub queues :
        new.queues ≡ map (filter (λ page. not (is_idle old.segments page))) old.queues

  -- they have no class now, other pages the one that they had; and nothing else of a segment has
  -- changed but lists
  pub record Collected (old new : Held S) : Type 0 where
    pub rest : map bare new.segments ≡ map bare old.segments
    pub classes :
        (page : ℕ)
        → class_on number new.segments page
        ≡ (if is_idle old.segments page then None else class_on number old.segments page)
