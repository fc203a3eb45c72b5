-- What a change of one place of a held segment is in a worker's view.
use Rattle.std.specs.Prelude.{◌≡◌, ◌≢◌, ℕ, ◌+◌, ◌*◌, ◌/◌, ◌==◌, ◌<◌, List, Option, Some, slice_get}
use Rattle.std.specs.Prelude.{slice_set, if◌then◌else◌}
use Rattle.std.specs.List.{position_or_len}
use Rattle.hg_place.specs.declared.geometry.TheConstants.{SEGMENT_PLACES, SEGMENT_PAGES}
use Rattle.hg_place.specs.declared.geometry.TheConstants.{PAGE_PLACES}
use Rattle.hg_place.specs.Places.{page_of}
use Rattle.hg_place.specs.Standings.{standing_at}
use Rattle.hg_machine.specs.Policy.{Policy}
use Rattle.hg_agreement.specs.Views.{View}
use Rattle.hg_agreement.specs.Changed.{IsLike, put}
use Rattle.hg_agreement.specs.Holdings.{Holding, block_of, class_of, view_of}

-- the segment that stands at this index, the first of its number, and the one that comes in its
-- place: they have the same number, and tell the same of all places but this one and all pages but
-- its own
pub record IsHeldPut (holdings : List Holding) (found : ℕ) (one now : Holding) (at : ℕ)
    : Type 0 where
  pub there : slice_get holdings found ≡ Some one
  pub first : found ≡ position_or_len (λ h. h.number == one.number) holdings
  pub number : now.number ≡ one.number
  pub below : at < SEGMENT_PLACES
  pub standings :
      (other : ℕ) → other < SEGMENT_PLACES → other ≢ at
      → standing_at now.standings other ≡ standing_at one.standings other
  pub blocks :
      (other : ℕ) → other < SEGMENT_PLACES → other ≢ at → block_of now other ≡ block_of one other
  pub classes :
      (page : ℕ) → page < SEGMENT_PAGES → page ≢ at / PAGE_PLACES
      → class_of now page ≡ class_of one page

-- the page of the place has this class
abbrev pub with_class : View → ℕ → Option ℕ → View
with_class view place class =
    record view { class = λ page. if page == page_of place then class else view.class page }

-- then the views differ in what they tell of the place and of the class of its page
abbrev pub PutIsLike : Type 0
PutIsLike =
    (policy : Policy) (worker : ℕ) (hand : Option ℕ) (generation : ℕ) (holdings : List Holding)
    (found : ℕ) (one now : Holding) (at : ℕ) → IsHeldPut holdings found one now at
    → IsLike
    (with_class
    (put (view_of policy worker hand generation holdings) (one.number * SEGMENT_PLACES + at)
    (standing_at now.standings at) (block_of now at))
    (one.number * SEGMENT_PLACES + at) (class_of now (at / PAGE_PLACES)))
    (view_of policy worker hand generation (slice_set holdings found now))

-- and in what they tell of the place alone, where the class is the same
abbrev pub PutIsLikePut : Type 0
PutIsLikePut =
    (policy : Policy) (worker : ℕ) (hand : Option ℕ) (generation : ℕ) (holdings : List Holding)
    (found : ℕ) (one now : Holding) (at : ℕ) → IsHeldPut holdings found one now at
    → class_of now (at / PAGE_PLACES) ≡ class_of one (at / PAGE_PLACES)
    → IsLike
    (put (view_of policy worker hand generation holdings) (one.number * SEGMENT_PLACES + at)
    (standing_at now.standings at) (block_of now at))
    (view_of policy worker hand generation (slice_set holdings found now))
