-- How a race under the policy of some bytes ends: its status, and what it writes.
use Rattle.std.specs.Prelude.{◌≡◌, ◌⊎◌, ◌++◌, ℕ, true, false, List, [], Option, Some, None, Ok, Err}
use Rattle.std.specs.Prelude.{codes}
use Rattle.hg_machine.specs.Policy.{Policy}
use Rattle.hg_policy_text.specs.Document.{document_of}
use Rattle.hg_policy_text.specs.Faults.{Read}
use Rattle.hg_replay.specs.Sinks.{Seen}
use Rattle.hg_replay.specs.Statuses.{NoPolicy}
use Rattle.hg_replay.specs.Writes.{Wrote, StopsIn}
use Rattle.hg_replay.specs.declared.run.status.Status.{Status}
use Rattle.hg_replay.specs.declared.run.status.Status.TheVariants as status
use Rattle.hg_race.specs.Counts.{AreCounts, counts_line}
use Rattle.hg_race.specs.Fit.{is_fit, lack_text}

-- the bytes mean a policy that a race can be run under
abbrev pub CanRace : List ℕ → Type 0
CanRace bytes = (policy : Policy) × (document_of bytes ≡ Ok policy) × (is_fit policy ≡ true)

-- they mean none, or one that no race can be run under
abbrev pub IsUnfit : List ℕ → Type 0
IsUnfit bytes =
    NoPolicy bytes
    ⊎ ((policy : Policy) × (document_of bytes ≡ Ok policy) × (is_fit policy ≡ false))

-- the line of a race of so many rounds at most
abbrev pub IsLine : ℕ → List ℕ → Type 0
IsLine most line =
    (rounds : ℕ) × (ended : ℕ) × (freed : ℕ) × AreCounts most rounds ended freed
    × (line ≡ counts_line rounds ended freed)

-- by the status: Done where a race can be run and its line is written; BadPolicy where none can and
-- nothing is written; Failed for want of memory or of a thread, and for a write that stopped in that
-- line
abbrev pub EndsRace : Status → List ℕ → ℕ → Seen → Seen → Type 0
EndsRace status.Done bytes most old new =
    CanRace bytes × ((line : List ℕ) × IsLine most line × Wrote old new line)
EndsRace status.BadPolicy bytes most old new = IsUnfit bytes × (new ≡ old)
EndsRace status.Failed bytes most old new =
    (new ≡ old) ⊎ (CanRace bytes × ((line : List ℕ) × IsLine most line × StopsIn old new line))
EndsRace _ bytes most old new = ⊥

-- what is told of a policy under which no race can be run, as a line of its own behind two blanks
abbrev pub hint_of : Option (List ℕ) → List ℕ
hint_of None = []
hint_of (Some lack) = codes "  " ++ lack ++ codes "\n"

-- of bytes that mean no policy nothing is told
abbrev pub told_of : Read Policy → List ℕ
told_of (Ok policy) = hint_of (lack_text policy)
told_of (Err fault) = []
