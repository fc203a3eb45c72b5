-- What calls for bytes of a bank's block do.
use Rattle.std.specs.Prelude.{◌≡◌, ℕ, List}
use Rattle.hg_bank.specs.State.{BankState}
use Rattle.hg_bytes.specs.Bytes.{ReadsBytes, WritesBytes}
use Rattle.hg_bytes.specs.OfBank.{bank_reads, bank_writes}
use Rattle.hg_bytes.specs.declared.of_bank.BankBlock.{BankBlock}
use Rattle.hg_bytes.specs.declared.progress.Progress.{Progress}
use Rattle.hg_place.specs.declared.Actor.{Actor}
use Rattle.hg_place.specs.declared.Handle.{Handle}
use Rattle.hg_reply.specs.declared.reply.Reply.{Reply}
use Rattle.hg_ffi.specs.Bytes.{bytes_reply}

-- a block of a core, and who asks for it
abbrev pub banked_block : ℕ → Actor → ℕ → Handle → BankBlock
banked_block worker actor core handle =
    record { worker = worker; actor = actor; block = record { core = core; handle = handle } }

-- the bytes of a block are read into the room, as far as no word's Read is refused
abbrev pub ReadsBytesInto
    : ℕ → Actor → ℕ → ℕ → List ℕ → List ℕ → Reply → Handle → BankState → BankState → Type 0
ReadsBytesInto worker actor core first room told reply handle old new =
    (made : Progress)
    × ReadsBytes bank_reads bank_writes (banked_block worker actor core handle) first room made told
    old new
    × (reply ≡ bytes_reply made)

-- the bytes are written into a block, as far as no word's Read or Write is refused
abbrev pub WritesBytesFrom
    : ℕ → Actor → ℕ → ℕ → List ℕ → Reply → Handle → BankState → BankState → Type 0
WritesBytesFrom worker actor core first bytes reply handle old new =
    (made : Progress)
    × WritesBytes bank_reads bank_writes (banked_block worker actor core handle) first bytes made old
    new
    × (reply ≡ bytes_reply made)
