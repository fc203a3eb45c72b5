-- Laws of what a seat knows: what a step adds to it, what a meeting says of two seats, who knows
-- nothing, that a step leaves no word that is before one that was seen, and what one by one of several
-- parts makes of them.
use Rattle.std.specs.Prelude.{◌≡◌, ◌≢◌, ◌⊎◌, ◌↔◌, ℕ, ◌<◌, ◌≤◌, [], ◌∷◌, length, slice_index}
use mathlib.Core.Option.{some}
use lib.ListN.{get_elem?}
use Rattle.hg_place.specs.Lives.{IsAtOrBefore, word_generation, word_life}
use Rattle.hg_table.specs.declared.view.Part.{Part}
use Rattle.hg_table.specs.View.{View, Table, Has, saw}
use Rattle.hg_table.specs.Steps.{WordStep, left_by, known_after, view_after, MayMake, MayMakeBy}
use Rattle.hg_table.specs.Seats.{HasStepped, HaveMet, KnowsNothing}
use Rattle.hg_table.specs.LifeLaws.{new_table, LeadTo}

-- the part has seen the word at the place, and has ended the place's life of the generation
abbrev pub HasSeen : Part → ℕ → ℕ → Type 0
HasSeen part at word = (k : ℕ) × (get_elem? part.seen k ≡ some (at, word))

abbrev pub HasEnded : Part → ℕ → ℕ → Type 0
HasEnded part at generation = (k : ℕ) × (get_elem? part.ended k ≡ some (at, generation))

-- the life of the place and the generation is the one that the step found alive, and left ended
pub record IsEndedBy (at found left place generation : ℕ) : Type 0 where
  pub here : place ≡ at
  pub life : generation ≡ word_generation found
  pub live : word_life found ≡ 1
  pub over : word_life left ≡ 0

-- what was seen and ended stays so; what is added is the word left, and the life that this step
-- ended
pub record StepsAddOneLife : Type 0 where
  pub ended :
      (at found left place generation : ℕ) (part after : Part)
      → HasStepped part at found left after → HasEnded after place generation
      → HasEnded part place generation ⊎ IsEndedBy at found left place generation
  pub ended_here :
      (at found left place generation : ℕ) (part after : Part)
      → HasStepped part at found left after → IsEndedBy at found left place generation
      → HasEnded after place generation
  pub ended_still :
      (at found left place generation : ℕ) (part after : Part)
      → HasStepped part at found left after → HasEnded part place generation
      → HasEnded after place generation
  pub seen :
      (at found left place word : ℕ) (part after : Part)
      → HasStepped part at found left after → HasSeen after place word
      → HasSeen part place word ⊎ ((place ≡ at) × (word ≡ left))
  pub seen_here :
      (at found left : ℕ) (part after : Part) → HasStepped part at found left after
      → HasSeen after at left
  pub seen_still :
      (at found left place word : ℕ) (part after : Part)
      → HasStepped part at found left after → HasSeen part place word → HasSeen after place word

-- after a meeting no life was ended by both seats, and both have seen the word
pub record MeetingsAreApart : Type 0 where
  pub lives :
      (at word place generation : ℕ) (a b a' b' : Part) → HaveMet at word a b a' b'
      → HasEnded a' place generation → HasEnded b' place generation → ⊥
  pub seen :
      (at word : ℕ) (a b a' b' : Part) → HaveMet at word a b a' b'
      → HasSeen a' at word × HasSeen b' at word

-- who knows nothing has seen no word and ended no life, and who has neither knows nothing
pub record NothingIsKnown : Type 0 where
  pub seen : (at word : ℕ) (part : Part) → KnowsNothing part → HasSeen part at word → ⊥
  pub ended :
      (at generation : ℕ) (part : Part) → KnowsNothing part → HasEnded part at generation → ⊥
  pub nothing :
      (part : Part) → ((at word : ℕ) → HasSeen part at word → ⊥)
      → ((at generation : ℕ) → HasEnded part at generation → ⊥) → KnowsNothing part

-- the word that a seat's step leaves is at or after each word that any seat has seen there
abbrev pub LeftIsPastSeen : Type 0
LeftIsPastSeen =
    (places at id i j before : ℕ) (table : Table) (view : View) (step : WordStep) (part : Part)
    → LeadTo (new_table places) table → at < length table.words
    → get_elem? table.views id ≡ some view → MayMake step at view
    → Has table.views i j part → HasSeen part at before
    → IsAtOrBefore before (left_by step (slice_index table.words at))

-- A step by one part of a seat: that part knows what the step did, each other has seen the word that is
-- left and is as it was otherwise, and there are as many. A part may make what a seat of it alone may
pub record OnePartSteps : Type 0 where
  pub one :
      (by at word : ℕ) (step : WordStep) (view : View) (part : Part)
      → get_elem? view by ≡ some part
      → get_elem? (view_after by step at word view) by ≡ some (known_after step at word part)
  pub others :
      (by j at word : ℕ) (step : WordStep) (view : View) (part : Part) → j ≢ by
      → get_elem? view j ≡ some part
      → get_elem? (view_after by step at word view) j ≡ some (saw at (left_by step word) part)
  pub count :
      (by at word : ℕ) (step : WordStep) (view : View)
      → length (view_after by step at word view) ≡ length view
  pub may :
      (by at : ℕ) (step : WordStep) (view : View) (part : Part) → get_elem? view by ≡ some part
      → 1 ≤ at → MayMake step at (part ∷ []) ↔ MayMakeBy by step at view
