-- The order of choice: which place of a heap is given out next.
use Rattle.std.specs.Prelude.{ℕ, ◌+◌, ◌*◌, ◌%◌, ◌==◌, Bool, true, false, List, [], ◌∷◌, Option, Some}
use Rattle.std.specs.Prelude.{None, find, option_map, option_and_then, slice_get}
use Rattle.std.specs.Prelude.{if◌then◌else◌}
use Rattle.std.specs.Option.{option_or}
use Rattle.hg_place.specs.declared.geometry.TheConstants.{SEGMENT_PAGES, PAGE_PLACES}
use Rattle.hg_place.specs.declared.standing.Standing.{Standing}
use Rattle.hg_place.specs.Places.{segment_of_page}
use Rattle.hg_size.specs.Sizes.{number_of_size, places_of}
use Rattle.hg_size.specs.SizeLaws.{key_of}
use Rattle.hg_size.specs.Runs.{may_begin}
use Rattle.hg_page.specs.PageLists.{PageLists, fresh}
use Rattle.hg_queue.specs.Queues.{queue_of}
use Rattle.hg_segment.specs.Kept.{Kept, refilled}
use Rattle.hg_segment.specs.Kept.{class_at as class_in}
use Rattle.hg_segment.specs.Right.{vacant_in}
use Rattle.hg_heap.specs.Held.{Held, segment_in, lists_on, is_some_place, all_pages}

-- the index that a page gives out next: the head of `free`, or of `local_free` where `free` is empty
abbrev pub next_index : PageLists → Option ℕ
next_index lists = slice_get (refilled lists).free 0

-- these, or where there are some places to begin with, those
abbrev pub begun_or : List ℕ → PageLists → PageLists
begun_or [] lists = lists
begun_or (x ∷ xs) lists = fresh (x ∷ xs)

module _ {S : Type 0} (number : S → ℕ) (records : S → List Standing) where
  -- the places that a block of this size may take of a page that may get its class, in a segment of
  -- the arena, rising: those that are home and not worn; of another page none
  abbrev pub blank_of : ℕ → ℕ → ℕ → Kept S → Bool → List ℕ
  blank_of arena size page k true =
      if k.arena == arena then vacant_in k.greatest (records k.slots) page (places_of size) else []
  blank_of arena size page k false = []

  abbrev pub blank_by : ℕ → ℕ → Option (Kept S) → ℕ → List ℕ
  blank_by arena size None page = []
  blank_by arena size (Some k) page =
      blank_of arena size page k (may_begin (class_in k.classes) size page)

  abbrev pub blank_on : List (Kept S) → ℕ → ℕ → ℕ → List ℕ
  blank_on segments arena size page =
      blank_by arena size (segment_in number segments (segment_of_page page)) (page % SEGMENT_PAGES)

  -- the page at the front of the queue of the arena and the size
  abbrev pub front_page : Held S → ℕ → ℕ → Option ℕ
  front_page held arena size =
      slice_get (queue_of held.queues (key_of arena (number_of_size size))) 0

  -- the first page, by segment and page, that may get the class of the size and has a place for it
  abbrev pub blank_page : Held S → ℕ → ℕ → Option ℕ
  blank_page held arena size =
      find (λ page. is_some_place (blank_on held.segments arena size page)) all_pages

  -- the page to give a place out of: the front of the queue, else the first without a class
  abbrev pub chosen_page : Held S → ℕ → ℕ → Option ℕ
  chosen_page held arena size = option_or (front_page held arena size) (blank_page held arena size)

  -- its lists when the place is taken: those that it has, or all its places where it gets the class
  -- only now
  abbrev pub lists_for : List (Kept S) → ℕ → ℕ → ℕ → PageLists
  lists_for segments arena size page =
      begun_or (blank_on segments arena size page) (lists_on number segments page)

  -- the place that is given out, by its number
  abbrev pub chosen_place : Held S → ℕ → ℕ → Option ℕ
  chosen_place held arena size =
      option_and_then
      (λ page. option_map (λ index. page * PAGE_PLACES + index)
      (next_index (lists_for held.segments arena size page)))
      (chosen_page held arena size)
