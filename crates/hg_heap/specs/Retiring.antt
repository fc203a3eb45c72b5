-- A page of a heap loses its class.
use Rattle.std.specs.Prelude.{◌≡◌, ◌≢◌, ℕ, [], None, map}
use Rattle.hg_lists.specs.Lists.{without}
use Rattle.hg_page.specs.PageLists.{freed}
use Rattle.hg_heap.specs.Held.{Held, lists_on, class_on, KeepsOtherLists}
use Rattle.hg_heap.specs.Idle.{bare}

module _ {S : Type 0} (number : S → ℕ) where
  -- the page, by its number over all segments, has no class and nothing on its lists now, and
  -- stands in no queue; other pages have the class and the lists that they had
  pub record RetiredOn (page : ℕ) (old new : Held S) : Type 0 where
    pub class : class_on number new.segments page ≡ None
    pub classes :
        (other : ℕ) → other ≢ page
        → class_on number new.segments other ≡ class_on number old.segments other
    pub lists :
        lists_on number new.segments page ≡ freed (lists_on number old.segments page) []
    pub others : KeepsOtherLists number page old.segments new.segments
    pub rest : map bare new.segments ≡ map bare old.segments
    pub queues : new.queues ≡ map (without page) old.queues
