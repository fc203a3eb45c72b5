-- How a check of the bytes of a policy and a trace ends: its status, and what it writes.
use Rattle.std.specs.Prelude.{⊤, ◌≡◌, ◌⊎◌, ℕ, List, Some, Ok}
use Rattle.hg_machine.specs.Policy.{Policy}
use Rattle.hg_policy_text.specs.Document.{document_of}
use Rattle.hg_trace.specs.declared.line.Line.{Line}
use Rattle.hg_replay.specs.Events.{unknown_worker}
use Rattle.hg_replay.specs.Sinks.{Seen}
use Rattle.hg_replay.specs.Statuses.{Means, NoPolicy, NoTrace}
use Rattle.hg_replay.specs.Writes.{Wrote, StopsIn}
use Rattle.hg_replay.specs.declared.replaying.fault.ReplayFault.{ReplayFault}
use Rattle.hg_replay.specs.declared.replaying.fault.ReplayFault.TheVariants as fault
use Rattle.hg_replay.specs.declared.run.status.Status.{Status}
use Rattle.hg_replay.specs.declared.run.status.Status.TheVariants as status
use Rattle.hg_strangers.specs.Texts.{checked}

-- the text is what a check of the policy and the trace prints that the bytes mean
abbrev pub IsChecked : List ℕ → List ℕ → List ℕ → Type 0
IsChecked policy_bytes trace_bytes text =
    (policy : Policy) × (lines : List Line) × Means policy_bytes trace_bytes policy lines
    × (text ≡ checked policy lines)

-- where lines under a policy are at fault: the first whose worker is unknown, or want of memory
abbrev pub IsFound : Policy → List Line → ReplayFault → Type 0
IsFound policy lines (fault.Worker line) = unknown_worker policy.workers lines ≡ Some line
IsFound policy lines fault.Memory = ⊤
IsFound policy lines fault.Write = ⊥

-- the bytes of the policy, or of the trace, have a fault with this status, or memory was refused
abbrev pub IsFaulty : Status → List ℕ → List ℕ → Type 0
IsFaulty status.BadPolicy policy_bytes trace_bytes = NoPolicy policy_bytes
IsFaulty status.BadTrace policy_bytes trace_bytes =
    (policy : Policy) × (document_of policy_bytes ≡ Ok policy) × NoTrace policy trace_bytes
IsFaulty status.Failed policy_bytes trace_bytes = ⊤
IsFaulty _ policy_bytes trace_bytes = ⊥

-- by the status: Done where the bytes mean a policy and a trace for it, with that text written;
-- BadPolicy where there is no policy, and BadTrace where there is one and no trace for it, with
-- nothing written; Failed for want of memory, and for a write that stopped in that text
abbrev pub EndsChecked : Status → List ℕ → List ℕ → Seen → Seen → Type 0
EndsChecked status.Done policy_bytes trace_bytes old new =
    (text : List ℕ) × IsChecked policy_bytes trace_bytes text × Wrote old new text
EndsChecked status.Failed policy_bytes trace_bytes old new =
    (new ≡ old)
    ⊎ ((text : List ℕ) × IsChecked policy_bytes trace_bytes text × StopsIn old new text)
EndsChecked ended policy_bytes trace_bytes old new =
    IsFaulty ended policy_bytes trace_bytes × (new ≡ old)
