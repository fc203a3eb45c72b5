-- The life rule: what the words of all places and the views of all seats keep between any two
-- steps.
use Rattle.std.specs.Prelude.{◌≡◌, ◌≢◌, ℕ, ◌+◌, ◌<◌, ◌≤◌, List, length, slice_index}
use mathlib.Core.Option.{some}
use lib.ListN.{get_elem?}
use Rattle.hg_place.specs.Lives.{IsSlotWord, IsAtOrBefore, word_generation, word_life}
use Rattle.hg_place.specs.Standings.{standing_at, Fits}
use Rattle.hg_table.specs.declared.view.Part.{Part}
use Rattle.hg_table.specs.View.{Table, Has, IsSeen, IsEnded, all_seats, SEATS_TO_GIVE}

-- the life of this generation is over where a word is this one
abbrev pub IsOver : ℕ → ℕ → Type 0
IsOver generation word =
    (generation ≤ word_generation word) × (word_generation word ≡ generation → word_life word ≡ 0)

-- each word that the part has seen is at or before the one that stands
abbrev pub SeenIsPast : List ℕ → Part → Type 0
SeenIsPast words part =
    (k at word : ℕ) → get_elem? part.seen k ≡ some (at, word)
    → IsAtOrBefore word (slice_index words at)

-- each life that the part has ended is over
abbrev pub EndedIsOver : List ℕ → Part → Type 0
EndedIsOver words part =
    (k at generation : ℕ) → get_elem? part.ended k ≡ some (at, generation)
    → IsOver generation (slice_index words at)

-- each word fits the record that the part has of its place
abbrev pub RecordsAreTrue : List ℕ → Part → Type 0
RecordsAreTrue words part =
    (k : ℕ) → k < length part.records
    → Fits (standing_at part.records k) (slice_index words (part.first + k))

-- the spare word comes first, and then a word for each place
pub record LifeRule (places : ℕ) (table : Table) : Type 0 where
  pub all_words : length table.words ≡ places + 1
  pub spare : slice_index table.words 0 ≡ 0
  -- well-formed words
  pub well_formed : (at : ℕ) → IsSlotWord (slice_index table.words at)
  -- what was seen is past
  pub seen_is_past :
      (i j : ℕ) (part : Part) → Has table.views i j part → SeenIsPast table.words part
  -- each life is ended by one seat
  pub ended_is_over :
      (i j : ℕ) (part : Part) → Has table.views i j part → EndedIsOver table.words part
  pub ended_once :
      (i j k i' j' k' at generation : ℕ) (a b : Part)
      → Has table.views i j a → Has table.views i' j' b
      → get_elem? a.ended k ≡ some (at, generation) → get_elem? b.ended k' ≡ some (at, generation)
      → (i ≡ i') × (j ≡ j')
  -- records are true
  pub records_are_true :
      (i j : ℕ) (part : Part) → Has table.views i j part → RecordsAreTrue table.words part
  -- a segment's records stand in one view: no place is recorded by two parts
  pub one_view :
      (i j k i' j' k' : ℕ) (a b : Part) → Has table.views i j a → Has table.views i' j' b
      → k < length a.records → k' < length b.records → a.first + k ≡ b.first + k'
      → (i ≡ i') × (j ≡ j')
  -- a word that isn't 0 was seen by some seat
  pub words_are_seen :
      (at : ℕ) → slice_index table.words at ≢ 0
      → IsSeen table.views at (slice_index table.words at)
  -- each life that is over was ended by some seat: lives are counted from generation 1 on
  pub over_is_ended :
      (at generation : ℕ) → 1 ≤ generation → IsOver generation (slice_index table.words at)
      → IsEnded table.views at generation
  -- parts, and the seats that may still come out of them, are together as many as at first
  pub seats : all_seats table.views ≡ 1 + SEATS_TO_GIVE
