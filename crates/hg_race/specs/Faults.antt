-- The status of a race that failed.
use Rattle.std.specs.Prelude.{Result, Ok, Err}
use Rattle.hg_policy_text.specs.Faults.{fault_of}
use Rattle.hg_replay.specs.RunFaults.{policy_status}
use Rattle.hg_replay.specs.declared.run.status.Status.{Status}
use Rattle.hg_replay.specs.declared.run.status.Status.TheVariants as status
use Rattle.hg_race.specs.declared.fault.RaceFault.{RaceFault}
use Rattle.hg_race.specs.declared.fault.RaceFault.TheVariants as race_fault

abbrev pub status_of : RaceFault → Status
status_of (race_fault.Policy fault) = policy_status (fault_of fault)
status_of race_fault.Unfit = status.BadPolicy
status_of race_fault.Write = status.Failed
status_of race_fault.Memory = status.Failed

abbrev pub status_after : {A : Type 0} → Result A RaceFault → Status
status_after (Ok done) = status.Done
status_after (Err fault) = status_of fault
