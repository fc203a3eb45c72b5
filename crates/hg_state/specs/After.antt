-- What a trace leaves, and the text of that.
use Rattle.std.specs.Prelude.{⊤, ◌≡◌, ℕ, List, [], ◌∷◌, Some}
use Rattle.hg_machine.specs.Policy.{Policy}
use Rattle.hg_machine.specs.Lists.{Kept}
use Rattle.hg_trace.specs.declared.line.Line.{Line}
use Rattle.hg_core.specs.Opening.{opened}
use Rattle.hg_replay.specs.declared.replaying.fault.ReplayFault.{ReplayFault}
use Rattle.hg_replay.specs.declared.replaying.fault.ReplayFault.TheVariants as fault
use Rattle.hg_replay.specs.Events.{unknown_worker}
use Rattle.hg_replay.specs.Replays.{Answered, Progress, Replays, starting}
use Rattle.hg_replay.specs.Statuses.{Means}
use Rattle.hg_replay.specs.Tellings.{IsTold}
use Rattle.hg_replay.specs.declared.replaying.told.Told.{Told}
use Rattle.hg_state.specs.Costs.{all_granted}
use Rattle.hg_state.specs.Standing.{standing_text}
use Rattle.hg_state.specs.declared.form.View.{View}

-- the lines are answered one after another, which leaves this, and each comes to this
abbrev pub ComeTo : Progress → List Line → Progress → List Told → Type 0
ComeTo from [] end told = (end ≡ from) × (told ≡ [])
ComeTo from (line ∷ lines) end told =
    (mid : Progress) × (text : List ℕ) × (first : Told) × (rest : List Told)
    × Answered from line mid text × IsTold from line first mid.kept
    × ComeTo mid lines end rest × (told ≡ first ∷ rest)

-- so it is a replay
abbrev pub ComingToReplays : Type 0
ComingToReplays =
    (from end : Progress) (lines : List Line) (told : List Told) → ComeTo from lines end told
    → (text : List ℕ) × Replays from lines end text

-- a replay of these lines, from what a core opens with under the policy, leaves this, and its lines
-- come to these
abbrev pub Leads : Policy → List Line → Kept → List Told → Type 0
Leads policy lines kept told =
    (end : Progress) × ComeTo (starting (opened policy)) lines end told × (end.kept ≡ kept)

-- and this is the text of what stands then
abbrev pub LeavesText : View → Policy → List Line → List ℕ → Type 0
LeavesText view policy lines text =
    (kept : Kept) × (told : List Told) × Leads policy lines kept told
    × (text ≡ standing_text view kept.state kept.state.orphans (all_granted told))

-- why there is none: some line's worker is unknown, or memory was refused
abbrev pub IsWithout : Policy → List Line → ReplayFault → Type 0
IsWithout policy lines (fault.Worker line) = unknown_worker policy.workers lines ≡ Some line
IsWithout policy lines fault.Memory = ⊤
IsWithout policy lines fault.Write = ⊥

-- the bytes mean a policy and a trace for it, and this is the text of what stands after it
abbrev pub IsTextAfter : View → List ℕ → List ℕ → List ℕ → Type 0
IsTextAfter view policy_bytes trace_bytes text =
    (policy : Policy) × (lines : List Line) × Means policy_bytes trace_bytes policy lines
    × LeavesText view policy lines text
