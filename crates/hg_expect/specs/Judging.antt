-- What is found of the lines of a trace, as they are answered one after another.
use Rattle.std.specs.Prelude.{⊤, ◌≡◌, ℕ, ◌-◌, List, [], ◌∷◌, Some, None, Result, Ok, Err}
use Rattle.std.specs.Prelude.{slice_get, unwrap_or}
use Rattle.std.specs.List.{slice_split}
use Rattle.hg_machine.specs.Policy.{Policy}
use Rattle.hg_trace.specs.Lines.{ends_line}
use Rattle.hg_trace.specs.declared.line.Line.{Line}
use Rattle.hg_core.specs.Opening.{opened}
use Rattle.hg_replay.specs.declared.replaying.fault.ReplayFault.{ReplayFault}
use Rattle.hg_replay.specs.declared.replaying.fault.ReplayFault.TheVariants as fault
use Rattle.hg_replay.specs.Events.{unknown_worker}
use Rattle.hg_replay.specs.Replays.{Progress, Answered, starting}
use Rattle.hg_replay.specs.Statuses.{Means}
use Rattle.hg_expect.specs.Findings.{Findings, Finds, nothing}

-- the lines of a trace's bytes, without their ends, and the one with this number, from 1
abbrev pub texts_of : List ℕ → List (List ℕ)
texts_of bytes = slice_split ends_line bytes

abbrev pub text_of : List (List ℕ) → ℕ → List ℕ
text_of texts number = unwrap_or (slice_get texts (number - 1)) []

-- the lines are answered one after another, as in a replay, which leaves this; and of each is found
-- what its text states beside what a replay prints for it
abbrev pub Judges
    : List (List ℕ) → Progress → Findings → List Line → Progress → Findings → Type 0
Judges texts from found [] end last = (end ≡ from) × (last ≡ found)
Judges texts from found (line ∷ lines) end last =
    (mid : Progress) × (reply : List ℕ) × (next : Findings) × Answered from line mid reply
    × Finds found line.number (text_of texts line.number) reply next
    × Judges texts mid next lines end last

-- this is found of the lines, from what a core opens with under the policy
abbrev pub Judged : List ℕ → Policy → List Line → Findings → Type 0
Judged trace_bytes policy lines found =
    (end : Progress)
    × Judges (texts_of trace_bytes) (starting (opened policy)) nothing lines end found

-- the same, where no line's worker is unknown; or the first such line, or want of memory
abbrev pub JudgedAs : List ℕ → Policy → List Line → Result Findings ReplayFault → Type 0
JudgedAs trace_bytes policy lines (Ok found) =
    (unknown_worker policy.workers lines ≡ None) × Judged trace_bytes policy lines found
JudgedAs trace_bytes policy lines (Err (fault.Worker line)) =
    unknown_worker policy.workers lines ≡ Some line
JudgedAs trace_bytes policy lines (Err fault.Memory) = ⊤
JudgedAs trace_bytes policy lines (Err fault.Write) = ⊥

-- the bytes mean a policy and a trace for it, and this is found of its lines
abbrev pub Tested : List ℕ → List ℕ → Findings → Type 0
Tested policy_bytes trace_bytes found =
    (policy : Policy) × (lines : List Line) × Means policy_bytes trace_bytes policy lines
    × Judged trace_bytes policy lines found
