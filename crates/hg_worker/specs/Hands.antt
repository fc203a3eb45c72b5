-- What a worker's seats know of the life that it has in hand.
use Rattle.std.specs.Prelude.{◌≡◌, ℕ, List, Option, Some, Contains}
use mathlib.Core.Option.{some}
use lib.ListN.{get_elem?}
use Rattle.hg_place.specs.declared.Handle.{Handle}
use Rattle.hg_place.specs.Lives.{IsAtOrBefore}
use Rattle.hg_segment.specs.Kept.{Kept}
use Rattle.hg_table.specs.declared.view.Part.{Part}
use Rattle.hg_table.specs.LifeRule.{IsOver}
use Rattle.hg_worker.specs.Seen.{word_of}

-- what such a seat has seen of the place is at or past the end of the life: so is each word that
-- isn't before any of it
pub record SawEnd (handle : Handle) (part : Part) : Type 0 where
  pub past :
      (word : ℕ)
      → ((k before : ℕ) → get_elem? part.seen k ≡ some (word_of handle.place, before)
      → IsAtOrBefore before word)
      → IsOver handle.generation word

-- The worker's own seat has seen the end of the life in hand; and so has the seat of its place's
-- segment, where the worker holds that
pub record KnowsHand {S : Type 0} (number : S → ℕ) (part : S → Part) (hand : Option Handle)
    (own : Part) (segments : List (Kept S)) : Type 0 where
  pub by_own : (handle : Handle) → hand ≡ Some handle → SawEnd handle own
  pub by_held :
      (handle : Handle) (k : Kept S) → hand ≡ Some handle → Contains segments k
      → number k.slots ≡ handle.place.segment → SawEnd handle (part k.slots)
