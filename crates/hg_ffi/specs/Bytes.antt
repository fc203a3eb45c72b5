-- What calls for bytes of a core's block do.
use Rattle.std.specs.Prelude.{◌≡◌, ℕ, List, Option, None, Some}
use Rattle.hg_bytes.specs.Bytes.{ReadsBytes, WritesBytes}
use Rattle.hg_bytes.specs.OfCore.{core_reads, core_writes}
use Rattle.hg_bytes.specs.declared.of_core.CoreBlock.{CoreBlock}
use Rattle.hg_bytes.specs.declared.progress.Progress.{Progress}
use Rattle.hg_machine.specs.Lists.{Kept}
use Rattle.hg_machine.specs.declared.Answer.{Answer}
use Rattle.hg_place.specs.declared.Actor.{Actor}
use Rattle.hg_place.specs.declared.Handle.{Handle}
use Rattle.hg_reply.specs.declared.reply.Reply.{Reply}
use Rattle.hg_reply.specs.Replies.{reply_of, valued}

-- the reply to how far a call came: what refused it, if something did, and how many bytes were done
abbrev pub far_reply : ℕ → Option Answer → Reply
far_reply done None = valued 2 done
far_reply done (Some said) = record (reply_of said) { value = done }

abbrev pub bytes_reply : Progress → Reply
bytes_reply made = far_reply made.done made.refused

-- a block, and who asks for it
abbrev pub core_block : ℕ → Actor → Handle → CoreBlock
core_block worker actor handle = record { worker = worker; actor = actor; handle = handle }

-- the bytes of a block are read into the room, as far as no word's Read is refused
abbrev pub ReadsBytesInto
    : ℕ → Actor → ℕ → List ℕ → List ℕ → Reply → Handle → Kept → Kept → Type 0
ReadsBytesInto worker actor first room told reply handle old new =
    (made : Progress)
    × ReadsBytes core_reads core_writes (core_block worker actor handle) first room made told old new
    × (reply ≡ bytes_reply made)

-- the bytes are written into a block, as far as no word's Read or Write is refused
abbrev pub WritesBytesFrom : ℕ → Actor → ℕ → List ℕ → Reply → Handle → Kept → Kept → Type 0
WritesBytesFrom worker actor first bytes reply handle old new =
    (made : Progress)
    × WritesBytes core_reads core_writes (core_block worker actor handle) first bytes made old new
    × (reply ≡ bytes_reply made)
