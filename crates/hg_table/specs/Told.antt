-- What a step tells the seat that makes it.
use Rattle.std.specs.Prelude.{◌≡◌, ◌≢◌, ℕ, ◌+◌, ◌<◌}
use Rattle.std.specs.Prelude.{map, length}
use mathlib.Core.Option.{some}
use lib.ListN.{get_elem?}
use Rattle.atomic_table.specs.Table.{Me, Step}
use Rattle.hg_place.specs.Lives.{IsSlotWord, IsAtOrBefore}
use Rattle.hg_place.specs.Standings.{standing_at, Fits}
use Rattle.hg_table.specs.declared.view.Part.{Part}
use Rattle.hg_table.specs.View.{View}
use Rattle.hg_table.specs.LifeRule.{IsOver}
use Rattle.hg_table.specs.Steps.{WordStep, look, open_as, close_from, part_from}
use Rattle.hg_table.specs.Steps.{take_home, known_after}

-- What the life rule says of a word that a seat with this part finds: it is a slot's, at or after
-- each word that was seen there, past each life that was ended there, and it fits the record
pub record IsShown (at word : ℕ) (part : Part) : Type 0 where
  pub slot_word : IsSlotWord word
  pub seen :
      (k before : ℕ) → get_elem? part.seen k ≡ some (at, before) → IsAtOrBefore before word
  pub ended :
      (k generation : ℕ) → get_elem? part.ended k ≡ some (at, generation) → IsOver generation word
  pub recorded :
      (k : ℕ) → k < length part.records → part.first + k ≡ at
      → Fits (standing_at part.records k) word

-- to each part of a view
abbrev pub IsShownTo : ℕ → ℕ → View → Type 0
IsShownTo at word view =
    (j : ℕ) (part : Part) → get_elem? view j ≡ some part → IsShown at word part

-- a seat's view, and what it holds of the table beside it, which is nothing here
abbrev pub Mine : Type 0
Mine = Me (Unit {0}) View

-- the index of the word, and the operands
abbrev pub Call : Type 0
Call = Step (Unit {0})

-- the step found a word that the rule lets it find, and the view is what that step makes of it
abbrev pub Tells : WordStep → Call → Mine → ℕ → Mine → Type 0
Tells step call mine word after =
    IsShownTo call.word word mine.0
    × (after.0 ≡ map (known_after step call.word word) mine.0) × (after.1 ≡ mine.1)

abbrev pub looked : Call → Mine → ℕ → Mine → Type 0
looked call = Tells look call

-- a store tells the word that was stored, not the one that was found
abbrev pub opened : Call → Mine → ℕ → Mine → Type 0
opened call mine live after =
    ((word : ℕ) × IsShownTo call.word word mine.0)
    × (after.0 ≡ map (known_after (open_as live) call.word live) mine.0) × (after.1 ≡ mine.1)

abbrev pub closed : Call → Mine → ℕ → Mine → Type 0
closed call = Tells (close_from call.first) call

abbrev pub parted : Call → Mine → ℕ → Mine → Type 0
parted call = Tells (part_from call.first) call

abbrev pub took : Call → Mine → ℕ → Mine → Type 0
took call = Tells take_home call

-- no life was ended by both, and no place is recorded by both
pub record AreApart (a b : Part) : Type 0 where
  pub ended :
      (k l at generation : ℕ) → get_elem? a.ended k ≡ some (at, generation)
      → get_elem? b.ended l ≡ some (at, generation) → ⊥
  pub records :
      (k l : ℕ) → k < length a.records → l < length b.records → a.first + k ≡ b.first + l → ⊥

-- a look of a seat that took in another tells too that their parts are apart
abbrev pub met : Call → Mine → ℕ → Mine → Type 0
met call mine word after =
    looked call mine word after
    × ((j k : ℕ) (a b : Part) → get_elem? mine.0 j ≡ some a → get_elem? mine.0 k ≡ some b → j ≢ k
    → AreApart a b)
