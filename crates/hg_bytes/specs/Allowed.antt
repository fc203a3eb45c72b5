-- What may be read and written is.
use Rattle.std.specs.Prelude.{◌≡◌, ◌⊎◌, ◌≤◌, ◌+◌, ◌%◌, ℕ, true, List, length, Option, None}
use Rattle.hg_place.specs.declared.Right.{Right}
use Rattle.hg_place.specs.declared.Right.TheVariants as right
use Rattle.hg_machine.specs.Denial.{denial}
use Rattle.hg_machine.specs.Holders.{holds}
use Rattle.hg_machine.specs.Lists.{Kept}
use Rattle.hg_machine.specs.Soundness.{IsSound}
use Rattle.hg_bytes.specs.Blocks.{AreBytes, block_bytes}
use Rattle.hg_bytes.specs.Bytes.{ReadsBytes, WritesBytes}
use Rattle.hg_bytes.specs.OfCore.{core_reads, core_writes}
use Rattle.hg_bytes.specs.declared.of_core.CoreBlock.{CoreBlock}
use Rattle.hg_bytes.specs.declared.progress.Progress.{Progress}

-- no rule denies it
abbrev pub MayUse : Right → CoreBlock → Kept → Type 0
MayUse what by k = denial k.state by.actor.0 what by.handle.place by.handle.generation ≡ None

-- the worker holds the block's segment
abbrev pub HoldsIts : CoreBlock → Kept → Type 0
HoldsIts by k = holds k.state by.worker by.handle.place.segment ≡ true

-- bytes that lie in a block are read whole, where the worker holds it and the actor may read it
abbrev pub AllowedIsRead : Type 0
AllowedIsRead =
    (by : CoreBlock) (first : ℕ) (room told : List ℕ) (made : Progress) (old new : Kept)
    → IsSound old.state → MayUse right.Read by old → HoldsIts by old
    → first + length room ≤ length (block_bytes old by.handle)
    → ReadsBytes core_reads core_writes by first room made told old new → made.refused ≡ None

-- they are written whole, where it holds it and the actor may write it, and read it too or fill
-- whole words
abbrev pub AllowedIsWritten : Type 0
AllowedIsWritten =
    (by : CoreBlock) (first : ℕ) (bytes : List ℕ) (made : Progress) (old new : Kept)
    → IsSound old.state → AreBytes bytes → MayUse right.Write by old → HoldsIts by old
    → MayUse right.Read by old ⊎ ((first % 8 ≡ 0) × (length bytes % 8 ≡ 0))
    → first + length bytes ≤ length (block_bytes old by.handle)
    → WritesBytes core_reads core_writes by first bytes made old new → made.refused ≡ None
