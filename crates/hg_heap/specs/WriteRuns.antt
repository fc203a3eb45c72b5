-- Writes of words of a block of a heap of plain words, one after another.
use Rattle.std.specs.Prelude.{◌≡◌, ℕ, ◌+◌, List, [], ◌∷◌, Contains, slice_index, slice_set}
use Rattle.hg_place.specs.declared.Actor.{Actor}
use Rattle.hg_place.specs.declared.Handle.{Handle}
use Rattle.hg_place.specs.declared.plain.PlainWords.{PlainWords}
use Rattle.hg_place.specs.Plain.{plain_words, plain_records}
use Rattle.hg_segment.specs.Kept.{Kept}
use Rattle.hg_segment.specs.Parted.{plain_number}
use Rattle.hg_machine.specs.Policy.{Policy}
use Rattle.hg_machine.specs.declared.Answer.{Answer}
use Rattle.hg_machine.specs.declared.Answer.TheVariants as answer
use Rattle.hg_machine.specs.declared.Event.TheVariants as event
use Rattle.hg_heap.specs.Held.{KeepsLists}
use Rattle.hg_heap.specs.Settled.{IsSettled}
use Rattle.hg_heap.specs.Ties.{HeapTies, Stepped, shown_at}

-- a step at a place of plain words shows the word that stands there, and leaves this one
abbrev pub shows_plain : PlainWords → ℕ → ℕ → Type 0
shows_plain s at word = word ≡ slice_index (plain_words s) at

abbrev pub steps_plain : PlainWords → ℕ → ℕ → ℕ → PlainWords → Type 0
steps_plain s at found left t = plain_words t ≡ slice_set (plain_words s) at left

-- a Write of a word of the block is answered so, by the word that a step shows and leaves; each
-- segment is settled after it, and each page has the lists that it had
pub record WritesOne (policy : Policy) (actor : Actor) (handle : Handle) (index value : ℕ)
    (told : Answer) (old new : List (Kept PlainWords)) : Type 0 where
  pub word : ℕ
  pub step : Stepped plain_number shows_plain steps_plain handle.place word word old new
  pub ties :
      HeapTies plain_number plain_records policy (shown_at handle.place word)
      (shown_at handle.place word) (event.Write actor handle index value) told old new
  pub lists : KeepsLists plain_number old new
  pub settled : (k : Kept PlainWords) → Contains new k → IsSettled plain_records k

-- these words are written from an index on, one after another
abbrev pub WritesRun
    : Policy → Actor → Handle → ℕ → List ℕ → List (Kept PlainWords) → List (Kept PlainWords)
    → Type 0
WritesRun policy actor handle index [] old new = new ≡ old
WritesRun policy actor handle index (value ∷ values) old new =
    (mid : List (Kept PlainWords))
    × WritesOne policy actor handle index value answer.Done old mid
    × WritesRun policy actor handle (index + 1) values mid new
