-- The number of each status, which the process ends with.
use Rattle.std.specs.Prelude.{ℕ}
use Rattle.hg_replay.specs.declared.run.status.Status.{Status}
use Rattle.hg_replay.specs.declared.run.status.Status.TheVariants as status

abbrev pub number_of : Status → ℕ
number_of status.Done = 0
number_of status.BadPolicy = 1
number_of status.BadTrace = 2
number_of status.Failed = 3
number_of status.BadLine = 4
number_of status.Differs = 5
