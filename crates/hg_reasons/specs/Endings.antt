-- How an explanation on the bytes of a policy and a trace ends: its status, and what it writes.
use Rattle.std.specs.Prelude.{⊤, ◌≡◌, ◌⊎◌, ℕ, List, Result, Ok, Err}
use Rattle.hg_machine.specs.Policy.{Policy}
use Rattle.hg_policy_text.specs.Document.{document_of}
use Rattle.hg_replay.specs.Sinks.{Seen}
use Rattle.hg_replay.specs.Statuses.{NoPolicy, NoTrace}
use Rattle.hg_replay.specs.Writes.{Wrote, StopsIn}
use Rattle.hg_replay.specs.RunFaults.{status_of}
use Rattle.hg_replay.specs.declared.run.fault.RunFault.{RunFault}
use Rattle.hg_replay.specs.declared.run.status.Status.{Status}
use Rattle.hg_replay.specs.declared.run.status.Status.TheVariants as status
use Rattle.hg_reasons.specs.Explaining.{IsExplained}
use Rattle.hg_reasons.specs.declared.form.Form.{Form}

-- the bytes of the policy, or of the trace, have a fault with this status, or memory was refused
abbrev pub IsFaulty : Status → List ℕ → List ℕ → Type 0
IsFaulty status.BadPolicy policy_bytes trace_bytes = NoPolicy policy_bytes
IsFaulty status.BadTrace policy_bytes trace_bytes =
    (policy : Policy) × (document_of policy_bytes ≡ Ok policy) × NoTrace policy trace_bytes
IsFaulty status.Failed policy_bytes trace_bytes = ⊤
IsFaulty _ policy_bytes trace_bytes = ⊥

-- by the status: Done where the bytes mean a policy and a trace for it, with the text of its lines
-- written; BadPolicy where there is no policy, and BadTrace where there is one and no trace for it,
-- with nothing written; Failed for want of memory, and for a write that stopped in that text
abbrev pub EndsExplained : Form → Status → List ℕ → List ℕ → Seen → Seen → Type 0
EndsExplained form status.Done policy_bytes trace_bytes old new =
    (text : List ℕ) × IsExplained form policy_bytes trace_bytes text × Wrote old new text
EndsExplained form status.BadPolicy policy_bytes trace_bytes old new =
    NoPolicy policy_bytes × (new ≡ old)
EndsExplained form status.BadTrace policy_bytes trace_bytes old new =
    (policy : Policy) × (document_of policy_bytes ≡ Ok policy) × NoTrace policy trace_bytes
    × (new ≡ old)
EndsExplained form status.Failed policy_bytes trace_bytes old new =
    (new ≡ old)
    ⊎ ((text : List ℕ) × IsExplained form policy_bytes trace_bytes text × StopsIn old new text)
EndsExplained form status.BadLine policy_bytes trace_bytes old new = ⊥
EndsExplained form status.Differs policy_bytes trace_bytes old new = ⊥

-- the status of an explanation by its fault
abbrev pub ended_by : Result (Unit {0}) RunFault → Status
ended_by (Ok done) = status.Done
ended_by (Err fault) = status_of fault
