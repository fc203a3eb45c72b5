-- Which pages of a heap stand in which queue.
use Rattle.std.specs.Prelude.{◌≡◌, ℕ, ◌%◌, ◌<◌, List, Contains, Option, Some, None}
use Rattle.std.specs.Prelude.{option_map, true}
use Rattle.hg_place.specs.declared.geometry.TheConstants.{SEGMENT_PAGES}
use Rattle.hg_place.specs.declared.standing.Standing.{Standing}
use Rattle.hg_place.specs.Places.{segment_of_page}
use Rattle.hg_place.specs.Standings.{standing_at}
use Rattle.hg_size.specs.Sizes.{number_of_size, places_of}
use Rattle.hg_size.specs.SizeLaws.{key_of}
use Rattle.hg_queue.specs.Queues.{queue_of, AreQueues}
use Rattle.hg_segment.specs.Kept.{Kept, slot}
use Rattle.hg_segment.specs.Kept.{class_at as class_in}
use Rattle.hg_segment.specs.Right.{is_vacant}
use Rattle.hg_heap.specs.Held.{Held, segment_in, lists_on, has_place}

module _ {S : Type 0} (number : S → ℕ) where
  abbrev pub key_by : Option (Kept S) → ℕ → Option ℕ
  key_by None page = None
  key_by (Some k) page =
      option_map (λ size. key_of k.arena (number_of_size size)) (class_in k.classes page)

  -- the key of a page that has a class: its arena and its class
  abbrev pub key_on : List (Kept S) → ℕ → Option ℕ
  key_on segments page =
      key_by (segment_in number segments (segment_of_page page)) (page % SEGMENT_PAGES)

  -- the pages that have a place on a list stand in the queue of their key, and no other page stands
  -- in a queue
  pub record AreQueued (held : Held S) : Type 0 where
    pub queues : AreQueues held.queues
    pub there :
        (page : ℕ) → has_place (lists_on number held.segments page) ≡ true
        → (key : ℕ) × (key_on held.segments page ≡ Some key)
        × Contains (queue_of held.queues key) page
    pub only :
        (key page : ℕ) → Contains (queue_of held.queues key) page
        → (key_on held.segments page ≡ Some key)
        × (has_place (lists_on number held.segments page) ≡ true)

  module _ (records : S → List Standing) where
    abbrev pub HasVacantIn : Kept S → ℕ → Option ℕ → Type 0
    HasVacantIn k page None = ⊥
    HasVacantIn k page (Some size) =
        (index : ℕ) × (index < places_of size)
        × (is_vacant k.greatest (standing_at (records k.slots) (slot page index)) ≡ true)

    abbrev pub HasVacantBy : Option (Kept S) → ℕ → Type 0
    HasVacantBy None page = ⊥
    HasVacantBy (Some k) page = HasVacantIn k page (class_in k.classes page)

    -- a block place of the page is home and not worn
    abbrev pub HasVacant : List (Kept S) → ℕ → Type 0
    HasVacant segments page =
        HasVacantBy (segment_in number segments (segment_of_page page)) (page % SEGMENT_PAGES)
