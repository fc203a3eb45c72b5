-- A segment as its callers see it, over the slot words S.
use Rattle.std.specs.Prelude.{◌≡◌, ℕ, ◌+◌, ◌*◌, Bool, true, false, List, [], ◌∷◌, Option, None}
use Rattle.std.specs.Prelude.{slice_index_or}
use Rattle.hg_place.specs.declared.geometry.TheConstants.{PAGE_PLACES}
use Rattle.hg_page.specs.PageLists.{PageLists, unused, pushed, spliced}

-- the arena and the greatest generation of its places, the slot words, the words of the blocks and
-- of the links between free ones, and by page the class (the size of a block) and the lists
pub record Kept (S : Type 0) : Type 0 where
  pub arena : ℕ
  pub greatest : ℕ
  pub slots : S
  pub words : List ℕ
  pub classes : List (Option ℕ)
  pub lists : List PageLists

-- the number of a place in its segment
abbrev pub slot : ℕ → ℕ → ℕ
slot page index = page * PAGE_PLACES + index

-- what no call but those on classes changes
pub record IsFixed {S : Type 0} (old new : Kept S) : Type 0 where
  pub arena : new.arena ≡ old.arena
  pub greatest : new.greatest ≡ old.greatest
  pub classes : new.classes ≡ old.classes

abbrev pub no_lists : PageLists
no_lists = record { free = []; local_free = []; used = [] }

abbrev pub lists_at : List PageLists → ℕ → PageLists
lists_at lists page = slice_index_or lists page no_lists

abbrev pub class_at : List (Option ℕ) → ℕ → Option ℕ
class_at classes page = slice_index_or classes page None

-- an empty `free` is given what `local_free` has
abbrev pub refilled_by : List ℕ → PageLists → PageLists
refilled_by [] lists = spliced lists
refilled_by (x ∷ xs) lists = lists

abbrev pub refilled : PageLists → PageLists
refilled lists = refilled_by lists.free lists

-- a used index goes home: in front of `local_free`, or on no list where it is worn
abbrev pub returned : Bool → PageLists → ℕ → PageLists
returned true lists index = unused lists index
returned false lists index = pushed lists index
