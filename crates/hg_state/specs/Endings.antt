-- How it ends to write what stands after a trace: the status, and what is written.
use Rattle.std.specs.Prelude.{⊤, ◌≡◌, ◌⊎◌, ℕ, List, Ok}
use Rattle.hg_machine.specs.Policy.{Policy}
use Rattle.hg_policy_text.specs.Document.{document_of}
use Rattle.hg_replay.specs.Sinks.{Seen}
use Rattle.hg_replay.specs.Statuses.{NoPolicy, NoTrace}
use Rattle.hg_replay.specs.Writes.{Wrote, StopsIn}
use Rattle.hg_replay.specs.declared.run.status.Status.{Status}
use Rattle.hg_replay.specs.declared.run.status.Status.TheVariants as status
use Rattle.hg_state.specs.After.{IsTextAfter}
use Rattle.hg_state.specs.declared.form.View.{View}

-- the bytes of the policy, or of the trace, have a fault with this status, or memory was refused
abbrev pub IsFaulty : Status → List ℕ → List ℕ → Type 0
IsFaulty status.BadPolicy policy_bytes trace_bytes = NoPolicy policy_bytes
IsFaulty status.BadTrace policy_bytes trace_bytes =
    (policy : Policy) × (document_of policy_bytes ≡ Ok policy) × NoTrace policy trace_bytes
IsFaulty status.Failed policy_bytes trace_bytes = ⊤
IsFaulty _ policy_bytes trace_bytes = ⊥

-- by the status: Done where the bytes mean a policy and a trace for it, with the text of what
-- stands then written; BadPolicy where there is no policy, and BadTrace where there is one and no
-- trace for it, with nothing written; Failed for want of memory, and for a write that stopped in
-- that text
abbrev pub EndsState : View → Status → List ℕ → List ℕ → Seen → Seen → Type 0
EndsState view status.Done policy_bytes trace_bytes old new =
    (text : List ℕ) × IsTextAfter view policy_bytes trace_bytes text × Wrote old new text
EndsState view status.BadPolicy policy_bytes trace_bytes old new =
    NoPolicy policy_bytes × (new ≡ old)
EndsState view status.BadTrace policy_bytes trace_bytes old new =
    (policy : Policy) × (document_of policy_bytes ≡ Ok policy) × NoTrace policy trace_bytes
    × (new ≡ old)
EndsState view status.Failed policy_bytes trace_bytes old new =
    (new ≡ old)
    ⊎ ((text : List ℕ) × IsTextAfter view policy_bytes trace_bytes text × StopsIn old new text)
EndsState view status.BadLine policy_bytes trace_bytes old new = ⊥
EndsState view status.Differs policy_bytes trace_bytes old new = ⊥
