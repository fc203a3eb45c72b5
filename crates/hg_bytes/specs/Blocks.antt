-- The bytes of a block, and what its calls come to.
use Rattle.std.specs.Prelude.{◌≡◌, ℕ, ◌<◌, List, length, slice_index}
use Rattle.std.specs.List.{flat_map}
use Rattle.std.specs.Int.{to_le_bytes, w64}
use Rattle.hg_place.specs.declared.Handle.{Handle}
use Rattle.hg_place.specs.Places.{number_of}
use Rattle.hg_machine.specs.Denial.{slot_at}
use Rattle.hg_machine.specs.Life.{contents_of}
use Rattle.hg_machine.specs.Lists.{Kept}
use Rattle.hg_machine.specs.State.{record_at, with_record}
use Rattle.hg_bytes.specs.Pieces.{laid}

-- each is one of 256
abbrev pub AreBytes : List ℕ → Type 0
AreBytes xs = (i : ℕ) → slice_index xs i < 256

-- the bytes of words: eight of each, the least first
abbrev pub bytes_in : List ℕ → List ℕ
bytes_in words = flat_map (to_le_bytes w64) words

-- the words of the block at the handle's place, and their bytes
abbrev pub block_words : Kept → Handle → List ℕ
block_words k handle = contents_of (record_at k.state (number_of handle.place)).life

abbrev pub block_bytes : Kept → Handle → List ℕ
block_bytes k handle = bytes_in (block_words k handle)

-- nothing changes but words of the block at this place: who has it, and in which life, is as it was
pub record IsSameBeside (place : ℕ) (old new : Kept) : Type 0 where
  pub slot : slot_at new.state place ≡ slot_at old.state place
  pub state : new.state ≡ with_record old.state place (record_at new.state place)
  pub lists : new.lists ≡ old.lists
  pub queues : new.queues ≡ old.queues

-- these bytes are laid into the block, from there on, which has as many words as before
pub record HasPut (handle : Handle) (first : ℕ) (bytes : List ℕ) (old new : Kept) : Type 0 where
  pub block : block_bytes new handle ≡ laid first bytes (block_bytes old handle)
  pub size : length (block_words new handle) ≡ length (block_words old handle)
  pub rest : IsSameBeside (number_of handle.place) old new
