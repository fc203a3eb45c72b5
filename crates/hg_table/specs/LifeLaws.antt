-- Laws of the slot words of running workers: what holds of each table that steps lead to, whichever
-- seats make them and in whatever order; and the last three of any two tables that keep the rule,
-- whatever led from the one to the other.
use Rattle.std.specs.Prelude.{◌≡◌, ◌≢◌, ◌⊎◌, ℕ, ◌+◌, ◌≤◌, List, [], ◌∷◌, ◌++◌, replicate}
use Rattle.std.specs.Prelude.{slice_index, slice_set}
use mathlib.Core.Option.{Option, some}
use lib.ListN.{get_elem?}
use Rattle.hg_place.specs.Lives.{IsAtOrBefore}
use Rattle.hg_table.specs.declared.view.Part.{Part}
use Rattle.hg_table.specs.View.{View, Table, Has, IsSeen, IsEnded, initial_view}
use Rattle.hg_table.specs.View.{seats_of, all_seats}
use Rattle.hg_table.specs.LifeRule.{LifeRule, IsOver, SeenIsPast, EndedIsOver, RecordsAreTrue}
use Rattle.hg_table.specs.Steps.{Steps}

-- all words are 0, and the one seat records all places as home, never given out
abbrev pub new_table : ℕ → Table
new_table places =
    record { words = replicate (places + 1) 0; homes = []; views = initial_view places ∷ [] }

-- one step after another leads from a table to a later one
pub data LeadTo : Table → Table → Type 0 where
  none : {table : Table} → LeadTo table table
  next : {table after last : Table} → Steps table after → LeadTo after last → LeadTo table last

-- a new table keeps the life rule, and so does each step
pub record StepsKeepTheRule : Type 0 where
  pub begins : (places : ℕ) → LifeRule places (new_table places)
  pub kept :
      (places : ℕ) (table after : Table) → LifeRule places table → Steps table after
      → LifeRule places after

-- a word only goes forward in the order of lives
abbrev pub WordsGoForward : Type 0
WordsGoForward =
    (places at : ℕ) (table after : Table) → LeadTo (new_table places) table → Steps table after
    → IsAtOrBefore (slice_index table.words at) (slice_index after.words at)

-- a life that a seat has ended is over from then on
abbrev pub EndedStaysEnded : Type 0
EndedStaysEnded =
    (places i j : ℕ) (table last : Table) (part : Part)
    → LeadTo (new_table places) table → LeadTo table last
    → Has table.views i j part → EndedIsOver last.words part

-- two seats never end one life
abbrev pub EndedByOneSeat : Type 0
EndedByOneSeat =
    (places i j k i' j' k' at generation : ℕ) (table : Table) (a b : Part)
    → LeadTo (new_table places) table → Has table.views i j a → Has table.views i' j' b
    → get_elem? a.ended k ≡ some (at, generation) → get_elem? b.ended k' ≡ some (at, generation)
    → (i ≡ i') × (j ≡ j')

-- what was seen is never ahead of the word
abbrev pub SeenIsNeverAhead : Type 0
SeenIsNeverAhead =
    (places i j : ℕ) (table last : Table) (part : Part)
    → LeadTo (new_table places) table → LeadTo table last
    → Has table.views i j part → SeenIsPast last.words part

-- the word never contradicts a record
abbrev pub RecordsHold : Type 0
RecordsHold =
    (places i j : ℕ) (table : Table) (part : Part)
    → LeadTo (new_table places) table → Has table.views i j part → RecordsAreTrue table.words part

-- each life that is over, from generation 1 on, was ended by some seat
abbrev pub EndedBySomeSeat : Type 0
EndedBySomeSeat =
    (places at generation : ℕ) (table : Table) → LeadTo (new_table places) table → 1 ≤ generation
    → IsOver generation (slice_index table.words at) → IsEnded table.views at generation

-- each word but 0 was seen by some seat
abbrev pub WordsAreSeen : Type 0
WordsAreSeen =
    (places at : ℕ) (table : Table) → LeadTo (new_table places) table
    → slice_index table.words at ≢ 0 → IsSeen table.views at (slice_index table.words at)

-- what some seat had seen some seat has seen still
abbrev pub NothingIsForgotten : List View → List View → Type 0
NothingIsForgotten before after = (at word : ℕ) → IsSeen before at word → IsSeen after at word

-- Between two tables that keep the rule, however one came from the other, no word goes back, as long
-- as what some seat had seen some seat has seen still; and a word that has changed is one that some
-- seat has seen now, and none had seen before
pub record TheRuleGoesForward : Type 0 where
  pub forward :
      (places at : ℕ) (table after : Table) → LifeRule places table → LifeRule places after
      → NothingIsForgotten table.views after.views
      → IsAtOrBefore (slice_index table.words at) (slice_index after.words at)
  pub changed :
      (places at : ℕ) (table after : Table) → LifeRule places table → LifeRule places after
      → NothingIsForgotten table.views after.views
      → slice_index after.words at ≢ slice_index table.words at
      → IsSeen after.views at (slice_index after.words at)
      × (¬ IsSeen table.views at (slice_index after.words at))

-- a life that is over in the second of two tables that keep the rule, and isn't in the first, some
-- seat has ended in the second, and none in the first
abbrev pub WhatEndsIsEnded : Type 0
WhatEndsIsEnded =
    (places at generation : ℕ) (table after : Table) → LifeRule places table
    → LifeRule places after → 1 ≤ generation
    → (¬ IsOver generation (slice_index table.words at))
    → IsOver generation (slice_index after.words at)
    → IsEnded after.views at generation × (¬ IsEnded table.views at generation)

-- Of two tables that keep the rule, whatever else differs, the seats, with those that may still come
-- out of them, are as many. So a step leaves a seat that knows nothing so, and any other in one part;
-- a seat out of which none may come gives its part to one alone of the two that it is cut into; and
-- a seat that comes from nothing knows nothing
pub record SeatsStayAsMany : Type 0 where
  pub many :
      (places : ℕ) (table after : Table) → LifeRule places table → LifeRule places after
      → all_seats after.views ≡ all_seats table.views
  pub step :
      (places id : ℕ) (table : Table) (words : List ℕ) (homes : List (Option (Unit {0})))
      (view new : View) → LifeRule places table → get_elem? table.views id ≡ some view
      → LifeRule places record {
        words = words;
        homes = homes;
        views = slice_set table.views id new;
      } → seats_of new ≡ seats_of view
  pub cut :
      (places id : ℕ) (table : Table) (words : List ℕ) (homes : List (Option (Unit {0})))
      (part : Part) (left right : View) → LifeRule places table
      → get_elem? table.views id ≡ some (part ∷ []) → part.may_give ≡ 0
      → LifeRule places record {
        words = words;
        homes = homes;
        views = slice_set table.views id left ++ right ∷ [];
      } → (left ≡ []) ⊎ (right ≡ [])
  pub come :
      (places : ℕ) (table : Table) (words : List ℕ) (homes : List (Option (Unit {0})))
      (view : View) → LifeRule places table
      → LifeRule places record {
        words = words;
        homes = homes;
        views = table.views ++ view ∷ [];
      } → view ≡ []
