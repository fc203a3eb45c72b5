-- What a read, a write and a look answer, by the verdict on the word that was shown and the block.
use Rattle.std.specs.Prelude.{◌≡◌, ℕ, ◌*◌, nat_lt, if◌then◌else◌, List, [], length}
use Rattle.std.specs.Prelude.{Option, Some, None, Result, Ok, Err}
use Rattle.hg_place.specs.declared.Place.{Place}
use Rattle.hg_place.specs.declared.Handle.{Handle}
use Rattle.hg_place.specs.declared.Right.{Right}
use Rattle.hg_place.specs.declared.geometry.TheConstants.{WORD_BYTES}
use Rattle.hg_place.specs.Slots.{slot_in}
use Rattle.hg_place.specs.Lives.{word_generation, word_owner}
use Rattle.hg_machine.specs.declared.Rule.{Rule}
use Rattle.hg_machine.specs.declared.Row.{Row}
use Rattle.hg_machine.specs.Policy.{Policy}
use Rattle.hg_machine.specs.Denial.{denial_on}
use Rattle.hg_segment.specs.Kept.{Kept}
use Rattle.hg_segment.specs.Blocks.{block_at}
use Rattle.hg_heap.specs.Held.{segment_in}
use Rattle.hg_heap.specs.declared.refused.Refused.{Refused}
use Rattle.hg_heap.specs.declared.refused.Refused.TheVariants as refused

-- why the actor may not use the right on a handle's block, by the word of its place
abbrev pub use_denial : Policy → ℕ → Right → Handle → ℕ → Option Rule
use_denial policy actor right handle word =
    denial_on policy actor right handle.place.segment handle.generation (slot_in word)

-- the value where nothing denies it and the block has such a word
abbrev pub reached : {X : Type 0} → Option Rule → List ℕ → ℕ → X → Result X Refused
reached (Some rule) block index value = Err (refused.Denied rule)
reached None block index value =
    if nat_lt index (length block) then Ok value else Err refused.OutOfBlock

module _ {S : Type 0} (number : S → ℕ) where
  abbrev pub block_by : Option (Kept S) → Place → List ℕ
  block_by None place = []
  block_by (Some k) place = block_at k.words k.classes place.page place.index

  -- the words of the block at a place of a heap
  abbrev pub block_in : List (Kept S) → Place → List ℕ
  block_in segments place = block_by (segment_in number segments place.segment) place

-- the row of a block, by the word of its place
pub record IsRowOf (place : Place) (word : ℕ) (block : List ℕ) (row : Row) : Type 0 where
  pub stands : row.handle.place ≡ place
  pub generation : row.handle.generation ≡ word_generation word
  pub owner : row.owner ≡ word_owner word
  pub bytes : row.bytes ≡ WORD_BYTES * length block
