-- The lists of a heap's pages after a place was given out or came home.
use Rattle.std.specs.Prelude.{◌≡◌, ℕ, Bool, List}
use Rattle.hg_place.specs.declared.standing.Standing.{Standing}
use Rattle.hg_page.specs.PageLists.{Pops}
use Rattle.hg_segment.specs.Kept.{Kept, refilled, returned}
use Rattle.hg_heap.specs.Held.{lists_on, KeepsOtherLists}
use Rattle.hg_heap.specs.Choice.{lists_for}

module _ {S : Type 0} (number : S → ℕ) where
  module _ (records : S → List Standing) where
    -- the index came off the head of `free`, refilled where it was empty, or begun where the page
    -- had no class
    pub record GivenOut (arena size page index : ℕ) (old new : List (Kept S)) : Type 0 where
      pub popped :
          Pops index (refilled (lists_for number records old arena size page))
          (lists_on number new page)
      pub others : KeepsOtherLists number page old new

  -- it is in front of `local_free`, or on no list where it is worn
  pub record CameHome (is_worn : Bool) (page index : ℕ) (old new : List (Kept S)) : Type 0 where
    pub returned : lists_on number new page ≡ returned is_worn (lists_on number old page) index
    pub others : KeepsOtherLists number page old new
