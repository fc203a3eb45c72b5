-- How the steps of a test end.
use Rattle.std.specs.Prelude.{⊤, ◌≡◌, ◌==◌, Bool, true, false, not, Result, Ok, Err}
use Rattle.hg_replay.specs.RunFaults.{status_of}
use Rattle.hg_replay.specs.Sinks.{Seen}
use Rattle.hg_replay.specs.Writes.{Wrote, StopsIn}
use Rattle.hg_replay.specs.declared.replaying.fault.ReplayFault.{ReplayFault}
use Rattle.hg_replay.specs.declared.replaying.fault.ReplayFault.TheVariants as fault
use Rattle.hg_replay.specs.declared.run.fault.RunFault.{RunFault}
use Rattle.hg_replay.specs.declared.run.status.Status.{Status}
use Rattle.hg_replay.specs.declared.run.status.Status.TheVariants as status
use Rattle.hg_expect.specs.Tests.{Summary, report}

-- the text is written and it is told whether some line differs, or a write stopped in it, or nothing
-- is written for want of memory
abbrev pub WritesReport : Summary → Seen → Seen → Result Bool ReplayFault → Type 0
WritesReport summary old new (Ok differs) =
    (differs ≡ not (summary.differ == 0)) × Wrote old new (report summary)
WritesReport summary old new (Err fault.Write) = StopsIn old new (report summary)
WritesReport summary old new (Err fault.Memory) = new ≡ old
WritesReport summary old new (Err (fault.Worker line)) = ⊥
