-- Laws of the bytes of a core's blocks, and of a bank's.
use Rattle.std.specs.Prelude.{◌≡◌, ◌<◌, ◌≤◌, ◌↔◌, ℕ, List, length, take, drop, slice_get, None, Some}
use Rattle.hg_machine.specs.Lists.{Kept}
use Rattle.hg_machine.specs.Soundness.{IsSound}
use Rattle.hg_bank.specs.State.{BankState, with_core}
use Rattle.hg_bytes.specs.Blocks.{AreBytes, HasPut, block_bytes}
use Rattle.hg_bytes.specs.Bytes.{ReadsBytes, WritesBytes}
use Rattle.hg_bytes.specs.OfBank.{bank_reads, bank_writes}
use Rattle.hg_bytes.specs.OfCore.{core_reads, core_writes}
use Rattle.hg_bytes.specs.Pieces.{piece, words_for}
use Rattle.hg_bytes.specs.declared.of_bank.BankBlock.{BankBlock}
use Rattle.hg_bytes.specs.declared.of_core.CoreBlock.{CoreBlock}
use Rattle.hg_bytes.specs.declared.progress.Progress.{Progress}

-- a word is one of those that bytes reach into exactly where one of them lies in it
abbrev pub EachWordHasBytes : Type 0
EachWordHasBytes =
    (into : ℕ) (bytes : List ℕ) (k : ℕ) → into < 8
    → (k < words_for into (length bytes)) ↔ (1 ≤ length (piece into bytes k))

-- what was read is what the block has, from the offset on, and nothing changes
abbrev pub ReadsShowBytes : Type 0
ReadsShowBytes =
    (by : CoreBlock) (first : ℕ) (room told : List ℕ) (made : Progress) (old new : Kept)
    → IsSound old.state → ReadsBytes core_reads core_writes by first room made told old new
    → (new ≡ old)
    × (take made.done told ≡ take made.done (drop first (block_bytes old by.handle)))

-- what was written is what the block has then, from the offset on, and nothing else changes
abbrev pub WritesPutBytes : Type 0
WritesPutBytes =
    (by : CoreBlock) (first : ℕ) (bytes : List ℕ) (made : Progress) (old new : Kept)
    → IsSound old.state → AreBytes bytes
    → WritesBytes core_reads core_writes by first bytes made old new
    → HasPut by.handle first (take made.done bytes) old new

-- so what was written whole is read there, whoever asks
abbrev pub WrittenIsRead : Type 0
WrittenIsRead =
    (by other : CoreBlock) (first : ℕ) (bytes room told : List ℕ) (made seen : Progress)
    (old mid new : Kept)
    → IsSound old.state → AreBytes bytes → other.handle ≡ by.handle → length room ≡ length bytes
    → WritesBytes core_reads core_writes by first bytes made old mid → made.refused ≡ None
    → ReadsBytes core_reads core_writes other first room seen told mid new → seen.refused ≡ None
    → told ≡ bytes

-- who asks a bank for a block, as who asks its core
abbrev pub in_core : BankBlock → CoreBlock
in_core by = record { worker = by.worker; actor = by.actor; handle = by.block.handle }

-- bytes of a bank's block are those of its core's, and each other core stays as it was
abbrev pub BankReadsAreACores : Type 0
BankReadsAreACores =
    (by : BankBlock) (first : ℕ) (room told : List ℕ) (made : Progress) (old new : BankState)
    (was : Kept)
    → slice_get old.cores by.block.core ≡ Some was
    → ReadsBytes bank_reads bank_writes by first room made told old new
    → (next : Kept) × ReadsBytes core_reads core_writes (in_core by) first room made told was next
    × (new ≡ with_core old by.block.core next)

abbrev pub BankWritesAreACores : Type 0
BankWritesAreACores =
    (by : BankBlock) (first : ℕ) (bytes : List ℕ) (made : Progress) (old new : BankState)
    (was : Kept)
    → slice_get old.cores by.block.core ≡ Some was
    → WritesBytes bank_reads bank_writes by first bytes made old new
    → (next : Kept) × WritesBytes core_reads core_writes (in_core by) first bytes made was next
    × (new ≡ with_core old by.block.core next)
