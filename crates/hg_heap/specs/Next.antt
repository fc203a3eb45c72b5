-- The page that the next block of a class comes from.
use Rattle.std.specs.Prelude.{◌≡◌, ℕ, true, List, Some, option_map}
use Rattle.hg_place.specs.declared.standing.Standing.{Standing}
use Rattle.hg_place.specs.Places.{segment_of, segment_of_page}
use Rattle.hg_heap.specs.Choice.{chosen_place}
use Rattle.hg_heap.specs.Held.{Held, is_held}

-- its segment is that of the chosen place, and it is held
pub record IsNext {S : Type 0} (number : S → ℕ) (records : S → List Standing) (held : Held S)
    (arena size page : ℕ) : Type 0 where
  pub next :
      Some (segment_of_page page)
      ≡ option_map segment_of (chosen_place number records held arena size)
  pub held_there : is_held number held.segments (segment_of_page page) ≡ true
