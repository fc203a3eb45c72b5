-- Laws of how the program ends.
use Rattle.std.specs.Prelude.{◌<◌, ℕ, List, Option, Some, length}
use Rattle.hg_replay.specs.Sinks.{Seen}
use Rattle.hg_replay.specs.declared.run.input.TheConstants.{LIMIT}
use Rattle.hg_replay.specs.declared.run.status.Status.{Status}
use Rattle.hg_reasons.specs.declared.form.Form.{Form}
use Rattle.hg_program.specs.Ends.{ReadsNone, EndsOnChecked, EndsOnFile, EndsOnFiles}
use Rattle.hg_program.specs.Ends.{EndsOnExplained, EndsOnRace}

-- a file longer than the limit is not read, for a check or a race, as a policy or as a trace,
-- whether or not answers are explained, or a trace is checked
abbrev pub LongFilesFail : Type 0
LongFilesFail =
    (bytes : List ℕ) (other : Option (List ℕ)) (rounds : ℕ) (form : Form) (ended : Status)
    (old new : Seen)
    → LIMIT < length bytes
    → (EndsOnFile (Some bytes) ended old new → ReadsNone ended old new)
    × (EndsOnRace (Some bytes) rounds ended old new → ReadsNone ended old new)
    × (EndsOnFiles (Some bytes) other ended old new → ReadsNone ended old new)
    × (EndsOnFiles other (Some bytes) ended old new → ReadsNone ended old new)
    × (EndsOnExplained form (Some bytes) other ended old new → ReadsNone ended old new)
    × (EndsOnExplained form other (Some bytes) ended old new → ReadsNone ended old new)
    × (EndsOnChecked (Some bytes) other ended old new → ReadsNone ended old new)
    × (EndsOnChecked other (Some bytes) ended old new → ReadsNone ended old new)
