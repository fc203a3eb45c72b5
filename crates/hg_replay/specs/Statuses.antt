-- How a run on the bytes of a policy and a trace ends: its status, and what it writes.
use Rattle.std.specs.Prelude.{◌≡◌, ◌≤◌, ◌⊎◌, ℕ, List, Option, Some, None, Ok, Err, IfSome, length}
use Rattle.hg_machine.specs.Policy.{Policy}
use Rattle.hg_policy_text.specs.Faults.{Fault}
use Rattle.hg_policy_text.specs.Document.{document_of}
use Rattle.hg_trace.specs.declared.line.Line.{Line}
use Rattle.hg_trace.specs.declared.fault.TraceFault.{TraceFault}
use Rattle.hg_trace.specs.Trace.{trace_of}
use Rattle.hg_trace.specs.Joined.{policy_in, trace_in}
use Rattle.hg_replay.specs.declared.run.input.TheConstants.{LIMIT}
use Rattle.hg_replay.specs.declared.run.status.Status.{Status}
use Rattle.hg_replay.specs.declared.run.status.Status.TheVariants as status
use Rattle.hg_core.specs.Opening.{opened}
use Rattle.hg_replay.specs.Events.{unknown_worker}
use Rattle.hg_replay.specs.Replays.{Progress, Replays, StopsWithin, starting}
use Rattle.hg_replay.specs.Sinks.{Seen}
use Rattle.hg_replay.specs.Writes.{Wrote}

-- the bytes mean this policy, and this trace, whose workers are all below the policy's count
abbrev pub Means : List ℕ → List ℕ → Policy → List Line → Type 0
Means policy_bytes trace_bytes policy lines =
    (document_of policy_bytes ≡ Ok policy) × (trace_of trace_bytes ≡ Ok lines)
    × (unknown_worker policy.workers lines ≡ None)

-- the bytes mean no policy
abbrev pub NoPolicy : List ℕ → Type 0
NoPolicy policy_bytes = (fault : Fault) × (document_of policy_bytes ≡ Err fault)

-- the bytes mean no trace, or one with a worker that the policy lacks
abbrev pub NoTrace : Policy → List ℕ → Type 0
NoTrace policy trace_bytes =
    ((fault : TraceFault) × (trace_of trace_bytes ≡ Err fault))
    ⊎ ((lines : List Line) × (number : ℕ) × (trace_of trace_bytes ≡ Ok lines)
    × (unknown_worker policy.workers lines ≡ Some number))

-- the bytes mean a policy and a trace, and the text of the answers is written
abbrev pub EndsWell : List ℕ → List ℕ → Seen → Seen → Type 0
EndsWell policy_bytes trace_bytes old new =
    (policy : Policy) × (lines : List Line) × Means policy_bytes trace_bytes policy lines
    × (end : Progress) × (text : List ℕ) × Replays (starting (opened policy)) lines end text
    × Wrote old new text

-- nothing is written, or a write stopped in the text of the answers
abbrev pub EndsEarly : List ℕ → List ℕ → Seen → Seen → Type 0
EndsEarly policy_bytes trace_bytes old new =
    (new ≡ old)
    ⊎ ((policy : Policy) × (lines : List Line) × Means policy_bytes trace_bytes policy lines
    × StopsWithin (opened policy) lines old new)

-- by the status: Done where all went well, BadPolicy where there is no policy, BadTrace where there
-- is one and no trace for it, with nothing written, and Failed for want of memory and for a write
-- that stopped
abbrev pub EndsAs : Status → List ℕ → List ℕ → Seen → Seen → Type 0
EndsAs status.Done policy_bytes trace_bytes old new = EndsWell policy_bytes trace_bytes old new
EndsAs status.BadPolicy policy_bytes trace_bytes old new = NoPolicy policy_bytes × (new ≡ old)
EndsAs status.BadTrace policy_bytes trace_bytes old new =
    (policy : Policy) × (document_of policy_bytes ≡ Ok policy) × NoTrace policy trace_bytes
    × (new ≡ old)
EndsAs status.Failed policy_bytes trace_bytes old new = EndsEarly policy_bytes trace_bytes old new
EndsAs status.BadLine policy_bytes trace_bytes old new = ⊥
EndsAs status.Differs policy_bytes trace_bytes old new = ⊥

-- joined input is not read, or it is, up to the limit, and a run on its two parts ends so
abbrev pub EndsJoined : Status → Option (List ℕ) → Seen → Seen → Type 0
EndsJoined ended input old new =
    ((ended ≡ status.Failed) × (new ≡ old))
    ⊎ ((bytes : List ℕ) × IfSome input (λ known. bytes ≡ known) × (length bytes ≤ LIMIT)
    × EndsAs ended (policy_in bytes) (trace_in bytes) old new)
