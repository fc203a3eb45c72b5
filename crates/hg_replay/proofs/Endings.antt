-- How a run ends where no trace was read, or where its replay gave up.
use Rattle.std.proofs.Common.{◌≡◌, ◌≢◌, ℕ, List, Ok, Err, refl, inl, inr}
use Rattle.hg_machine.specs.Policy.{Policy}
use Rattle.hg_policy_text.specs.Document.{document_of}
use Rattle.hg_trace.specs.declared.fault.TraceFault.{TraceFault}
use Rattle.hg_trace.specs.declared.fault.TraceFault.TheVariants as trace_fault
use Rattle.hg_replay.specs.declared.replaying.fault.ReplayFault.{ReplayFault}
use Rattle.hg_replay.specs.declared.replaying.fault.ReplayFault.TheVariants as replay_fault
use Rattle.hg_trace.specs.declared.line.Line.{Line}
use Rattle.hg_trace.specs.Trace.{trace_of}
use Rattle.hg_replay.specs.Sinks.{Seen}
use Rattle.hg_replay.specs.Replays.{EndsReplay}
use Rattle.hg_replay.specs.RunFaults.{trace_status, replay_status}
use Rattle.hg_replay.specs.Statuses.{EndsAs}

module _ (policy_bytes trace_bytes : List ℕ) (old : Seen) (policy : Policy) (is : document_of policy_bytes ≡ Ok policy) where
  pub trace_ends : (fault : TraceFault) → (fault ≢ trace_fault.Memory → trace_of trace_bytes ≡ Err fault)
      → EndsAs (trace_status fault) policy_bytes trace_bytes old old
  trace_ends (trace_fault.Line line fault) fails = (policy, is, inl (trace_fault.Line line fault, fails (λ e. cc)), refl)
  trace_ends trace_fault.Memory fails = inl refl

-- how a run ends where its replay gave up
module _ (policy_bytes trace_bytes : List ℕ) (old new : Seen) (policy : Policy) (lines : List Line)
    (is : document_of policy_bytes ≡ Ok policy) (read : trace_of trace_bytes ≡ Ok lines) where
  pub replay_ends : (fault : ReplayFault) → EndsReplay policy lines old new (Err fault) → EndsAs (replay_status fault) policy_bytes trace_bytes old new
  replay_ends (replay_fault.Worker line) (unknown, keeps) = (policy, is, inr (lines, line, read, unknown), keeps)
  replay_ends replay_fault.Write (known, stops) = inr (policy, lines, (is, read, known), stops)
  replay_ends replay_fault.Memory (known, keeps) = inl keeps
