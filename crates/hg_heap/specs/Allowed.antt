-- Which steps at a place the slot words of its segment have to allow before a call makes them.
use Rattle.std.specs.Prelude.{◌≡◌, ◌≢◌, ℕ, ◌+◌, ◌-◌, ◌%◌, ◌<◌, List, Some, None}
use Rattle.hg_place.specs.declared.geometry.TheConstants.{SEGMENT_PAGES, PAGE_PLACES}
use Rattle.hg_place.specs.declared.geometry.TheConstants.{SEGMENT_PLACES}
use Rattle.hg_place.specs.declared.Handle.{Handle}
use Rattle.hg_place.specs.declared.Place.{Place}
use Rattle.hg_place.specs.declared.standing.Standing.{Standing}
use Rattle.hg_place.specs.Lives.{live_word}
use Rattle.hg_place.specs.Places.{segment_of, segment_of_page}
use Rattle.hg_place.specs.Standings.{slot_of, standing_at, standing_generation}
use Rattle.hg_machine.specs.Policy.{Policy}
use Rattle.hg_machine.specs.Request.{words_for, size_of, alloc_verdict}
use Rattle.hg_machine.specs.declared.AllocVerdict.TheVariants as verdict
use Rattle.hg_page.specs.PageLists.{PageLists, Pops}
use Rattle.hg_segment.specs.Kept.{Kept, slot, lists_at, refilled}
use Rattle.hg_heap.specs.Charges.{charge_in}
use Rattle.hg_heap.specs.Choice.{chosen_place}
use Rattle.hg_heap.specs.Freeing.{free_denial}
use Rattle.hg_heap.specs.Held.{Held, segment_in}

-- each step at the segment of a number that leaves the word is allowed, where it is held
abbrev pub IsQuietIn
    : {S : Type 0} → (S → ℕ) → (S → Type 0) → ℕ → List (Kept S) → Type 0
IsQuietIn {S} number quiet segment segments =
    (k : Kept S) → segment_in number segments segment ≡ Some k → quiet k.slots

module _ {S : Type 0} (shows : S → ℕ → ℕ → Type 0) (allows : S → ℕ → ℕ → ℕ → Type 0) where
  -- the segment allows a look at the place, whatever word it shows
  abbrev pub LetsLook : Place → Kept S → Type 0
  LetsLook place k =
      (word : ℕ) → shows k.slots (slot_of place) word → allows k.slots (slot_of place) word word

  -- what a free of the handle's block does there: a word by which it is denied is left, and else the
  -- life of the word is ended
  pub record LetsFree (policy : Policy) (actor : ℕ) (handle : Handle) (k : Kept S) : Type 0 where
    pub denied :
        (word : ℕ) → shows k.slots (slot_of handle.place) word
        → free_denial policy actor handle word ≢ None
        → allows k.slots (slot_of handle.place) word word
    pub served :
        (word : ℕ) → shows k.slots (slot_of handle.place) word
        → free_denial policy actor handle word ≡ None
        → allows k.slots (slot_of handle.place) word (word - 1)

  module _ (number : S → ℕ) where
    -- the same of the place's segment, where it is held
    abbrev pub MayLook : Place → List (Kept S) → Type 0
    MayLook place segments =
        (k : Kept S) → segment_in number segments place.segment ≡ Some k → LetsLook place k

    abbrev pub MayFree : Policy → ℕ → Handle → List (Kept S) → Type 0
    MayFree policy actor handle segments =
        (k : Kept S) → segment_in number segments handle.place.segment ≡ Some k
        → LetsFree policy actor handle k

    module _ (records : S → List Standing) where
      -- the segment allows the next life of a place to begin
      abbrev pub LetsOpen : ℕ → ℕ → Kept S → Type 0
      LetsOpen owner at k =
          (word : ℕ) → shows k.slots at word
          → allows k.slots at word
          (live_word (standing_generation (standing_at (records k.slots) at) + 1) owner)

      -- the page's segment allows it of whichever place the page gives out next
      abbrev pub MayGive : ℕ → ℕ → List (Kept S) → Type 0
      MayGive page owner segments =
          (index : ℕ) (after : PageLists) (k : Kept S) → index < PAGE_PLACES
          → segment_in number segments (segment_of_page page) ≡ Some k
          → Pops index (refilled (lists_at k.lists (page % SEGMENT_PAGES))) after
          → LetsOpen owner (slot (page % SEGMENT_PAGES) index) k

      -- and that of the place that is chosen, of this place
      abbrev pub MayOpen : ℕ → ℕ → ℕ → Held S → Type 0
      MayOpen arena size owner held =
          (place : ℕ) (k : Kept S)
          → chosen_place number records held arena size ≡ Some place
          → segment_in number held.segments (segment_of place) ≡ Some k
          → LetsOpen owner (place % SEGMENT_PLACES) k

      -- an allocation: where the verdict serves it, the segment of the chosen place allows the next life
      -- of it to begin
      abbrev pub MayAlloc : Policy → ℕ → ℕ → ℕ → Held S → Type 0
      MayAlloc policy actor arena bytes held =
          alloc_verdict policy actor arena (words_for bytes) (charge_in records held.segments actor)
          ≡ verdict.Fits (size_of bytes)
          → MayOpen arena (size_of bytes) actor held
