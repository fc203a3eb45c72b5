-- A place of a page is given out.
use Rattle.std.specs.Prelude.{◌≡◌, ℕ, ◌+◌, true, List, Some, slice_set, replicate}
use Rattle.hg_place.specs.declared.Handle.{Handle}
use Rattle.hg_place.specs.declared.standing.Standing.{Standing}
use Rattle.hg_place.specs.declared.standing.Standing.TheVariants.{Open}
use Rattle.hg_place.specs.Places.{page_number}
use Rattle.hg_place.specs.Standings.{standing_at, slot_of, standing_generation}
use Rattle.hg_place.specs.Lives.{live_word}
use Rattle.hg_page.specs.PageLists.{Pops}
use Rattle.hg_segment.specs.Kept.{Kept, class_at, lists_at, refilled}
use Rattle.hg_segment.specs.Blocks.{block_at, KeepsOtherBlocks}
use Rattle.hg_segment.specs.Right.{is_vacant}
use Rattle.hg_heap.specs.Ties.{Stepped}

module _ {S : Type 0} (number : S → ℕ) (records : S → List Standing) (shows : S → ℕ → ℕ → Type 0)
    (steps : S → ℕ → ℕ → ℕ → S → Type 0) where
  -- The place was home and not worn, and one step began its next life; it came off its page's
  -- lists. Its block is all 0, and the other open blocks of its segment have the words that they
  -- had
  pub record Opened (page size owner : ℕ) (handle : Handle) (old new : List (Kept S)) : Type 0 where
    pub word : ℕ
    pub stepped :
        Stepped number shows steps handle.place word (live_word handle.generation owner) old new
    pub on : page_number handle.place ≡ page
    pub classes : stepped.after.classes ≡ stepped.before.classes
    pub class : class_at stepped.before.classes handle.place.page ≡ Some size
    pub vacant :
        is_vacant stepped.before.greatest
        (standing_at (records stepped.before.slots) (slot_of handle.place))
        ≡ true
    pub generation :
        handle.generation
        ≡ standing_generation (standing_at (records stepped.before.slots) (slot_of handle.place))
        + 1
    pub standings :
        records stepped.after.slots
        ≡ slice_set (records stepped.before.slots) (slot_of handle.place)
        (Open handle.generation owner)
    pub popped :
        Pops handle.place.index (refilled (lists_at stepped.before.lists handle.place.page))
        (lists_at stepped.after.lists handle.place.page)
    pub lists :
        stepped.after.lists
        ≡ slice_set stepped.before.lists handle.place.page
        (lists_at stepped.after.lists handle.place.page)
    pub zeroed :
        block_at stepped.after.words stepped.before.classes handle.place.page handle.place.index
        ≡ replicate size 0
    pub blocks :
        KeepsOtherBlocks (records stepped.after.slots) stepped.before.classes handle.place.page
        handle.place.index stepped.before.words stepped.after.words
