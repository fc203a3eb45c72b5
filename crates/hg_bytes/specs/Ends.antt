-- How a call for bytes of a core ends.
use Rattle.std.specs.Prelude.{◌≡◌, ◌≢◌, ◌⊎◌, ◌<◌, ◌≤◌, ◌+◌, ◌/◌, ◌%◌, ℕ, List, length, min, Option}
use Rattle.std.specs.Prelude.{MatchOption}
use Rattle.hg_machine.specs.declared.Answer.{Answer}
use Rattle.hg_machine.specs.declared.Answer.TheVariants as answer
use Rattle.hg_machine.specs.Lists.{Kept}
use Rattle.hg_bytes.specs.Bytes.{ReadsBytes, WritesBytes}
use Rattle.hg_bytes.specs.OfCore.{core_reads, core_writes}
use Rattle.hg_bytes.specs.declared.of_core.CoreBlock.{CoreBlock}
use Rattle.hg_bytes.specs.declared.progress.Progress.{Progress}

-- the index of the word in which a byte lies
abbrev pub index_at : ℕ → ℕ
index_at byte = min (byte / 8) 4294967295

-- of so many bytes from the first on, all are read; or so many are, those of the words before one whose
-- Read is refused
abbrev pub IsReadTo : CoreBlock → ℕ → ℕ → ℕ → Option Answer → Kept → Type 0
IsReadTo by first all done refused k =
    MatchOption refused (done ≡ all)
    (λ said. (done < all) × (1 ≤ done → (first + done) % 8 ≡ 0)
    × ((word : ℕ) → said ≢ answer.Value word)
    × core_reads by (index_at (first + done)) said k k)

abbrev pub ReadsEnd : Type 0
ReadsEnd =
    (by : CoreBlock) (first : ℕ) (room told : List ℕ) (made : Progress) (old new : Kept)
    → ReadsBytes core_reads core_writes by first room made told old new
    → IsReadTo by first (length room) made.done made.refused new

-- all are written; or those of the words before one whose Write is refused, or whose Read is where the
-- bytes don't fill it
abbrev pub IsWrittenTo : CoreBlock → ℕ → ℕ → ℕ → Option Answer → Kept → Type 0
IsWrittenTo by first all done refused k =
    MatchOption refused (done ≡ all)
    (λ said. (done < all) × (1 ≤ done → (first + done) % 8 ≡ 0)
    × ((((word : ℕ) → said ≢ answer.Value word)
    × ((first + done) % 8 ≡ 0 → all < done + 8)
    × core_reads by (index_at (first + done)) said k k)
    ⊎ ((value : ℕ) × (said ≢ answer.Done)
    × core_writes by (index_at (first + done)) value said k k)))

abbrev pub WritesEnd : Type 0
WritesEnd =
    (by : CoreBlock) (first : ℕ) (bytes : List ℕ) (made : Progress) (old new : Kept)
    → WritesBytes core_reads core_writes by first bytes made old new
    → IsWrittenTo by first (length bytes) made.done made.refused new
