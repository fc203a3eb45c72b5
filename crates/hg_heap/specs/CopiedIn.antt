-- What a write of many words leaves of a segment, by the verdict on the word that stands.
use Rattle.std.specs.Prelude.{◌≡◌, ◌⊎◌, ℕ, ◌+◌, ◌≤◌, List, length, take, IfSome, None, Err}
use Rattle.hg_place.specs.declared.Actor.{Actor}
use Rattle.hg_place.specs.declared.Handle.{Handle}
use Rattle.hg_place.specs.declared.Right.TheVariants as right
use Rattle.hg_place.specs.declared.plain.PlainWords.{PlainWords}
use Rattle.hg_place.specs.Plain.{plain_records}
use Rattle.hg_place.specs.Standings.{slot_of}
use Rattle.hg_segment.specs.Kept.{Kept}
use Rattle.hg_segment.specs.Blocks.{block_at}
use Rattle.hg_segment.specs.WordWrites.{AreWordsWritten}
use Rattle.hg_machine.specs.Policy.{Policy}
use Rattle.hg_heap.specs.Many.{ComesTo}
use Rattle.hg_heap.specs.Reading.{use_denial, reached}
use Rattle.hg_heap.specs.WriteRuns.{shows_plain}
use Rattle.hg_heap.specs.declared.how_far.HowFar.{HowFar}

-- the block of a place
abbrev pub block_there : Kept PlainWords → Handle → List ℕ
block_there k handle = block_at k.words k.classes handle.place.page handle.place.index

-- the block has so many words from one on, which are written one after another
pub record AreCopied (handle : Handle) (first : ℕ) (words : List ℕ) (old new : Kept PlainWords)
    : Type 0 where
  pub inside : first + length words ≤ length (block_there old handle)
  pub rest : new ≡ record old { words = new.words }
  pub written :
      AreWordsWritten (plain_records old.slots) old.classes handle.place.page handle.place.index
      first words old.words new.words

-- nothing is written; or the word allows it, and as many are as it tells. The next isn't reached,
-- or there is none
pub record CopiedIn (policy : Policy) (actor : Actor) (handle : Handle) (first : ℕ)
    (words : List ℕ) (old : Kept PlainWords) (far : HowFar) (new : Kept PlainWords) : Type 0 where
  pub word : ℕ
  pub shown : shows_plain old.slots (slot_of handle.place) word
  pub put :
      ((far.done ≡ 0) × (new ≡ old))
      ⊎ ((use_denial policy actor.0 right.Write handle word ≡ None)
      × AreCopied handle first (take far.done words) old new)
  pub next :
      IfSome far.refused
      (λ why. reached (use_denial policy actor.0 right.Write handle word)
      (block_there old handle) (first + far.done) (tt {0}) ≡ Err why)
  pub end : ComesTo (length words) far
