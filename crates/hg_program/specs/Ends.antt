-- How the program ends, by the words of its command line: its status, and what it writes.
use Rattle.std.specs.Prelude.{◌≡◌, ◌≢◌, ◌≤◌, ◌⊎◌, ℕ, List, Option, Result, Ok, Err, IfSome}
use Rattle.std.specs.Prelude.{Bool, false}
use Rattle.std.specs.Prelude.{length, string_bytes, All, map}
use Rattle.std.specs.declared.io.ErrorKind.{ErrorKind}
use Rattle.std.specs.declared.io.ErrorKind.TheVariants as kind
use Rattle.hg_replay.specs.Checks.{EndsCheck}
use Rattle.hg_replay.specs.Sinks.{Seen}
use Rattle.hg_replay.specs.Statuses.{EndsAs, EndsJoined}
use Rattle.hg_replay.specs.Writes.{Wrote, StopsIn}
use Rattle.hg_replay.specs.declared.run.input.TheConstants.{LIMIT}
use Rattle.hg_replay.specs.declared.run.status.Status.{Status}
use Rattle.hg_replay.specs.declared.run.status.Status.TheVariants as status
use Rattle.hg_race.specs.Races.{EndsRace}
use Rattle.hg_trace.specs.Joined.{policy_in, trace_in}
use Rattle.hg_reasons.specs.Endings.{EndsExplained}
use Rattle.hg_reasons.specs.declared.form.Form.{Form}
use Rattle.hg_reasons.specs.declared.form.Form.TheVariants as form
use Rattle.hg_expect.specs.Tests.{EndsTests, IsUnwarned, Progress, Stands}
use Rattle.hg_expect.specs.declared.source.Source.{Source}
use Rattle.hg_strangers.specs.Endings.{EndsChecked}
use Rattle.hg_state.specs.Endings.{EndsState}
use Rattle.hg_state.specs.declared.form.View.{View}
use Rattle.hg_state.specs.declared.form.View.TheVariants as view
use Rattle.hg_program.specs.ShowEnds.{EndsShow, EndsShowJson}
use Rattle.hg_job.specs.Jobs.{IsAnswerTo}
use Rattle.hg_job.specs.declared.job.Job.{Job}
use Rattle.hg_job.specs.declared.job.Job.TheVariants as job
use Rattle.hg_job.specs.declared.job.JobFault.{JobFault}
use Rattle.hg_job.specs.declared.job.Task.{Task}
use Rattle.hg_job.specs.declared.job.JobFault.TheVariants as fault

-- bytes of a file that holds these, where what it holds is known, and not more than the limit
abbrev pub IsOf : Option (List ℕ) → List ℕ → Type 0
IsOf held bytes = IfSome held (λ known. bytes ≡ known) × (length bytes ≤ LIMIT)

-- a file is not read, and nothing is written
abbrev pub ReadsNone : Status → Seen → Seen → Type 0
ReadsNone ended old new = (ended ≡ status.Failed) × (new ≡ old)

-- the file is not read, or a check of its bytes ends so
abbrev pub EndsOnFile : Option (List ℕ) → Status → Seen → Seen → Type 0
EndsOnFile held ended old new =
    ReadsNone ended old new ⊎ ((bytes : List ℕ) × IsOf held bytes × EndsCheck ended bytes old new)

-- a file is not read, or a check of the first's bytes and of the second's under them ends so
abbrev pub EndsOnChecked
    : Option (List ℕ) → Option (List ℕ) → Status → Seen → Seen → Type 0
EndsOnChecked first second ended old new =
    ReadsNone ended old new
    ⊎ ((policy : List ℕ) × (trace : List ℕ) × IsOf first policy × IsOf second trace
    × EndsChecked ended policy trace old new)

-- a file is not read, or a replay of the second's bytes under the first's ends so
abbrev pub EndsOnFiles : Option (List ℕ) → Option (List ℕ) → Status → Seen → Seen → Type 0
EndsOnFiles first second ended old new =
    ReadsNone ended old new
    ⊎ ((policy : List ℕ) × (trace : List ℕ) × IsOf first policy × IsOf second trace
    × EndsAs ended policy trace old new)

-- a file is not read, or an explanation of the second's bytes under the first's ends so, in this form
abbrev pub EndsOnExplained
    : Form → Option (List ℕ) → Option (List ℕ) → Status → Seen → Seen → Type 0
EndsOnExplained form first second ended old new =
    ReadsNone ended old new
    ⊎ ((policy : List ℕ) × (trace : List ℕ) × IsOf first policy × IsOf second trace
    × EndsExplained form ended policy trace old new)

-- a file is not read, or what stands after the second's bytes under the first's is told so, in this view
abbrev pub EndsOnState
    : View → Option (List ℕ) → Option (List ℕ) → Status → Seen → Seen → Type 0
EndsOnState view first second ended old new =
    ReadsNone ended old new
    ⊎ ((policy : List ℕ) × (trace : List ℕ) × IsOf first policy × IsOf second trace
    × EndsState view ended policy trace old new)

-- joined input is not read, or an explanation of its two parts ends so, in this form
abbrev pub EndsExplainedJoined : Form → Option (List ℕ) → Status → Seen → Seen → Type 0
EndsExplainedJoined form input ended old new =
    ReadsNone ended old new
    ⊎ ((bytes : List ℕ) × IsOf input bytes
    × EndsExplained form ended (policy_in bytes) (trace_in bytes) old new)

-- the file is not read, or a race of so many rounds under the policy of its bytes ends so
abbrev pub EndsOnRace : Option (List ℕ) → ℕ → Status → Seen → Seen → Type 0
EndsOnRace held rounds ended old new =
    ReadsNone ended old new
    ⊎ ((bytes : List ℕ) × IsOf held bytes × EndsRace ended bytes rounds old new)

-- traces of files of these names, in their order
abbrev pub AreOf : (List ℕ → Option (List ℕ)) → List (List ℕ) → List Source → Type 0
AreOf holds names sources =
    (map (λ source. source.name.now) sources ≡ names)
    × All (λ source. IsOf (holds source.name.now) source.bytes.items) sources

-- a file is not read, or a test of the traces' bytes under the policy's ends so
abbrev pub EndsOnTests
    : (List ℕ → Option (List ℕ)) → List ℕ → List (List ℕ) → Status → Seen → Seen → Type 0
EndsOnTests holds file names ended old new =
    ReadsNone ended old new
    ⊎ ((policy : List ℕ) × (sources : List Source) × IsOf (holds file) policy
    × AreOf holds names sources × EndsTests ended policy sources old new)

-- traces of files of these names stand so under a policy, and this holds where none of them is warned
-- of
abbrev pub StandOf
    : (List ℕ → Option (List ℕ)) → List ℕ → List (List ℕ) → Progress → Type 0 → Type 0
StandOf holds policy names tests Quiet =
    (sources : List Source) × AreOf holds names sources × Stands policy sources tests
    × (All (IsUnwarned policy) sources → Quiet)

-- this holds where nothing is warned of in the traces that were read of these files, under the policy
-- that was read of that one
abbrev pub IsQuietTest
    : (List ℕ → Option (List ℕ)) → List ℕ → List (List ℕ) → Type 0 → Type 0
IsQuietTest holds file names Quiet =
    (policy : List ℕ) × (sources : List Source) × IsOf (holds file) policy
    × AreOf holds names sources × (All (IsUnwarned policy) sources → Quiet)

-- this holds where a job is done: of one that reads the input where that is no terminal, of a test where
-- nothing is warned of, and of each other in any case
abbrev pub IsQuietJob : Bool → (List ℕ → Option (List ℕ)) → Job → Type 0 → Type 0
IsQuietJob may_be_terminal holds job.Joined Quiet = may_be_terminal ≡ false → Quiet
IsQuietJob may_be_terminal holds job.ExplainJoined Quiet = may_be_terminal ≡ false → Quiet
IsQuietJob may_be_terminal holds job.ExplainJoinedJson Quiet = may_be_terminal ≡ false → Quiet
IsQuietJob may_be_terminal holds (job.Test policy traces) Quiet =
    IsQuietTest holds policy.now (map (λ trace. trace.now) traces.items) Quiet
IsQuietJob may_be_terminal holds _ Quiet = Quiet

-- the file is not read, or what its bytes say is shown so
abbrev pub EndsOnShow : Option (List ℕ) → Status → Seen → Seen → Type 0
EndsOnShow held ended old new =
    ReadsNone ended old new ⊎ ((bytes : List ℕ) × IsOf held bytes × EndsShow ended bytes old new)

-- and so as JSON
abbrev pub EndsOnShowJson : Option (List ℕ) → Status → Seen → Seen → Type 0
EndsOnShowJson held ended old new =
    ReadsNone ended old new
    ⊎ ((bytes : List ℕ) × IsOf held bytes × EndsShowJson ended bytes old new)

-- a job ends so, where these are what the file of a path holds and what the input has left
abbrev pub EndsJob
    : (List ℕ → Option (List ℕ)) → Option (List ℕ) → Job → Status → Seen → Seen → Type 0
EndsJob holds input job.Joined ended old new = EndsJoined ended input old new
EndsJob holds input job.ExplainJoined ended old new =
    EndsExplainedJoined form.Text input ended old new
EndsJob holds input job.ExplainJoinedJson ended old new =
    EndsExplainedJoined form.Json input ended old new
EndsJob holds input (job.Check policy) ended old new = EndsOnFile (holds policy.now) ended old new
EndsJob holds input (job.CheckTrace policy trace) ended old new =
    EndsOnChecked (holds policy.now) (holds trace.now) ended old new
EndsJob holds input (job.Replay policy trace) ended old new =
    EndsOnFiles (holds policy.now) (holds trace.now) ended old new
EndsJob holds input (job.Explain policy trace) ended old new =
    EndsOnExplained form.Text (holds policy.now) (holds trace.now) ended old new
EndsJob holds input (job.ExplainJson policy trace) ended old new =
    EndsOnExplained form.Json (holds policy.now) (holds trace.now) ended old new
EndsJob holds input (job.Race policy rounds) ended old new =
    EndsOnRace (holds policy.now) rounds ended old new
EndsJob holds input (job.Test policy traces) ended old new =
    EndsOnTests holds policy.now (map (λ trace. trace.now) traces.items) ended old new
EndsJob holds input (job.Show policy) ended old new = EndsOnShow (holds policy.now) ended old new
EndsJob holds input (job.ShowJson policy) ended old new =
    EndsOnShowJson (holds policy.now) ended old new
EndsJob holds input (job.State policy trace) ended old new =
    EndsOnState view.Text (holds policy.now) (holds trace.now) ended old new
EndsJob holds input (job.StateJson policy trace) ended old new =
    EndsOnState view.Json (holds policy.now) (holds trace.now) ended old new
EndsJob holds input (job.StateMap policy trace) ended old new =
    EndsOnState view.Map (holds policy.now) (holds trace.now) ended old new
EndsJob holds input (job.StateSvg policy trace) ended old new =
    EndsOnState view.Svg (holds policy.now) (holds trace.now) ended old new

-- the text is written, or its writing stopped
abbrev pub Tries : Seen → Seen → List ℕ → Type 0
Tries old new text = Wrote old new text ⊎ StopsIn old new text

-- a text that was asked for is printed, with status Done, or with Failed where a write stopped in it;
-- a line is told on standard error, with status BadLine; and else memory was refused
abbrev pub EndsRefusal : JobFault → Status → Seen → Seen → Seen → Seen → Type 0
EndsRefusal (fault.Print text) ended old new err_old err_new =
    ((ended ≡ status.Done) × Wrote old new (string_bytes text))
    ⊎ ((ended ≡ status.Failed) × StopsIn old new (string_bytes text))
EndsRefusal (fault.Line text) ended old new err_old err_new =
    (ended ≡ status.BadLine) × (new ≡ old) × Tries err_old err_new (string_bytes text)
EndsRefusal fault.Memory ended old new err_old err_new =
    (ended ≡ status.Failed) × (new ≡ old)

-- a job is done, or the words are refused
abbrev pub EndsAnswer
    : (List ℕ → Option (List ℕ)) → Option (List ℕ) → Result Task JobFault → Status
    → Seen → Seen → Seen → Seen → Type 0
EndsAnswer holds input (Ok task) ended old new err_old err_new =
    EndsJob holds input task.job ended old new
EndsAnswer holds input (Err fault) ended old new err_old err_new =
    EndsRefusal fault ended old new err_old err_new

-- what the words are answered is done
abbrev pub EndsProgram
    : List (List ℕ) → (List ℕ → Option (List ℕ)) → Option (List ℕ) → Status
    → Seen → Seen → Seen → Seen → Type 0
EndsProgram words holds input ended old new err_old err_new =
    (answer : Result Task JobFault) × IsAnswerTo words answer
    × EndsAnswer holds input answer ended old new err_old err_new

-- this holds where what the words ask for tells and warns of nothing
abbrev pub AreQuietWords
    : Bool → List (List ℕ) → (List ℕ → Option (List ℕ)) → Type 0 → Type 0
AreQuietWords may_be_terminal words holds Quiet =
    Quiet
    ⊎ ((task : Task) × IsAnswerTo words (Ok task)
    × IsQuietJob may_be_terminal holds task.job Quiet)

-- the system gives no words, and nothing is written: for want of memory the status is Failed, and
-- else the words are no text
abbrev pub EndsWordless : ErrorKind → Status → Seen → Seen → Type 0
EndsWordless why ended old new =
    (new ≡ old) × (why ≡ kind.OutOfMemory → ended ≡ status.Failed)
    × (why ≢ kind.OutOfMemory → ended ≡ status.BadLine)
