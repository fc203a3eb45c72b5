-- A page that a place is to be given out of.
use Rattle.std.specs.Prelude.{◌≡◌, ◌⊎◌, ℕ, true, List, Some, None}
use Rattle.hg_place.specs.declared.standing.Standing.{Standing}
use Rattle.hg_size.specs.Sizes.{number_of_size}
use Rattle.hg_size.specs.SizeLaws.{key_of}
use Rattle.hg_page.specs.PageLists.{fresh}
use Rattle.hg_heap.specs.Held.{Held, lists_on, class_on, is_some_place, KeepsOtherLists}
use Rattle.hg_heap.specs.Requeued.{requeued}
use Rattle.hg_heap.specs.Choice.{front_page, blank_page, blank_on}
use Rattle.hg_heap.specs.Begun.{Begun}

module _ {S : Type 0} (number : S → ℕ) (records : S → List Standing) where
  -- it is at the front of its queue, and nothing has changed
  pub record IsAtFront (arena size page : ℕ) (old new : Held S) : Type 0 where
    pub front : front_page number records old arena size ≡ Some page
    pub same : new ≡ old

  -- or the queue is empty, and it is the first page without a class and gets this one
  pub record IsBegun (arena size page : ℕ) (old new : Held S) : Type 0 where
    pub empty : front_page number records old arena size ≡ None
    pub first : blank_page number records old arena size ≡ Some page
    pub blank : is_some_place (blank_on number records old.segments arena size page) ≡ true
    pub begun : Begun number records size page old.segments new.segments
    pub class : class_on number new.segments page ≡ Some size
    pub lists :
        lists_on number new.segments page
        ≡ fresh (blank_on number records old.segments arena size page)
    pub others : KeepsOtherLists number page old.segments new.segments
    pub queues :
        new.queues ≡ requeued (key_of arena (number_of_size size)) page true old.queues

  abbrev pub IsReady : ℕ → ℕ → ℕ → Held S → Held S → Type 0
  IsReady arena size page old new =
      IsAtFront arena size page old new ⊎ IsBegun arena size page old new
