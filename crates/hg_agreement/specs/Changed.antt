-- What a call changes of what a worker has.
use Rattle.std.specs.Prelude.{◌≡◌, ℕ, ◌==◌, true, List, [], Some, None, replicate, slice_set}
use Rattle.std.specs.Prelude.{if◌then◌else◌}
use Rattle.hg_place.specs.Places.{page_of, segment_of, segment_of_page}
use Rattle.hg_place.specs.declared.standing.Standing.{Standing}
use Rattle.hg_place.specs.declared.standing.Standing.TheVariants.{Home, Open}
use Rattle.hg_agreement.specs.Views.{View}
use Rattle.hg_agreement.specs.Seen.{is_given_up}

-- a place stands so, with these words
abbrev pub put : View → ℕ → Standing → List ℕ → View
put view place standing words = record view {
  standing = λ other. if other == place then standing else view.standing other;
  block = λ other. if other == place then words else view.block other;
}

-- the place is free
abbrev pub freed : View → ℕ → ℕ → View
freed view place generation = put view place (Home generation) []

-- one word of its block is another
abbrev pub written : View → ℕ → ℕ → ℕ → View
written view place index value =
    put view place (view.standing place) (slice_set (view.block place) index value)

-- the place is given out, and its page has the class
abbrev pub opened : View → ℕ → ℕ → ℕ → ℕ → View
opened view place generation owner size =
    record (put view place (Open generation owner) (replicate size 0)) {
      class = λ page. if page == page_of place then Some size else view.class page;
    }

-- idle pages have lost their class
abbrev pub collected : View → View
collected view = record view {
  class = λ page. if is_given_up view page then None else view.class page;
}

-- the block is in the hand
abbrev pub taken_in_hand : View → ℕ → ℕ → View
taken_in_hand view place generation =
    record view { hand = Some place; hand_generation = generation }

-- two views tell the same of what is held, and of the hand
pub record IsLike (one other : View) : Type 0 where
  pub policy : other.policy ≡ one.policy
  pub worker : other.worker ≡ one.worker
  pub holding : (segment : ℕ) → other.holds segment ≡ one.holds segment
  pub classes :
      (page : ℕ) → one.holds (segment_of_page page) ≡ true → other.class page ≡ one.class page
  pub standings :
      (place : ℕ) → one.holds (segment_of place) ≡ true → other.standing place ≡ one.standing place
  pub blocks :
      (place : ℕ) → one.holds (segment_of place) ≡ true → other.block place ≡ one.block place
  pub hand : other.hand ≡ one.hand
