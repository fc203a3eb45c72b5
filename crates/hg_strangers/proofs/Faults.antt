-- Faults of lines under a policy.
use Rattle.std.proofs.Common.{◌≡◌, ℕ, List, inr}
use Rattle.std.specs.Prelude.{Ok}
use Rattle.hg_machine.specs.Policy.{Policy}
use Rattle.hg_policy_text.specs.Document.{document_of}
use Rattle.hg_trace.specs.Trace.{trace_of}
use Rattle.hg_trace.specs.declared.line.Line.{Line}
use Rattle.hg_replay.specs.RunFaults.{replay_status}
use Rattle.hg_replay.specs.declared.replaying.fault.ReplayFault.{ReplayFault}
use Rattle.hg_replay.specs.declared.replaying.fault.ReplayFault.TheVariants as fault
use Rattle.hg_strangers.specs.Endings.{IsFaulty, IsFound}

-- such a fault is one of the bytes that mean the lines and the policy
pub faulty_found : (policy_bytes trace_bytes : List ℕ) (policy : Policy) (lines : List Line) (f : ReplayFault)
    → document_of policy_bytes ≡ Ok policy → trace_of trace_bytes ≡ Ok lines → IsFound policy lines f → IsFaulty (replay_status f) policy_bytes trace_bytes
faulty_found policy_bytes trace_bytes policy lines (fault.Worker line) document trace found = (policy, document, inr (lines, line, trace, found))
faulty_found policy_bytes trace_bytes policy lines fault.Memory document trace found = tt
faulty_found policy_bytes trace_bytes policy lines fault.Write document trace found = absurd found
