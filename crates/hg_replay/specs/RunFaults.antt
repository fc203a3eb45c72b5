-- The status of a run that failed.
use Rattle.std.specs.Prelude.{Option, Some, None, Result, Ok, Err}
use Rattle.hg_policy_text.specs.Faults.{Fault, fault_of}
use Rattle.hg_trace.specs.declared.fault.TraceFault.{TraceFault}
use Rattle.hg_trace.specs.declared.fault.TraceFault.TheVariants as trace_fault
use Rattle.hg_replay.specs.declared.replaying.fault.ReplayFault.{ReplayFault}
use Rattle.hg_replay.specs.declared.replaying.fault.ReplayFault.TheVariants as replay_fault
use Rattle.hg_replay.specs.declared.run.fault.RunFault.{RunFault}
use Rattle.hg_replay.specs.declared.run.fault.RunFault.TheVariants as run_fault
use Rattle.hg_replay.specs.declared.run.status.Status.{Status}
use Rattle.hg_replay.specs.declared.run.status.Status.TheVariants as status

-- None is want of memory
abbrev pub policy_status : Option Fault → Status
policy_status None = status.Failed
policy_status (Some fault) = status.BadPolicy

abbrev pub trace_status : TraceFault → Status
trace_status trace_fault.Memory = status.Failed
trace_status _ = status.BadTrace

abbrev pub replay_status : ReplayFault → Status
replay_status (replay_fault.Worker line) = status.BadTrace
replay_status replay_fault.Write = status.Failed
replay_status replay_fault.Memory = status.Failed

abbrev pub status_of : RunFault → Status
status_of (run_fault.Read fault) = status.Failed
status_of (run_fault.Policy fault) = policy_status (fault_of fault)
status_of (run_fault.Trace fault) = trace_status fault
status_of (run_fault.Replay fault) = replay_status fault

abbrev pub status_after : Result (Unit {0}) RunFault → Status
status_after (Ok done) = status.Done
status_after (Err fault) = status_of fault
