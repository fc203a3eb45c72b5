-- The job that a command with its operands asks for.
use Rattle.std.specs.Prelude.{⊤, ◌⊎◌, ◌≡◌, ◌≢◌, ◌<◌, ◌^◌, ℕ, List, [], Option, Some, None, Result, Ok}
use Rattle.std.specs.Prelude.{Err, Bool, true, false, ◌&&◌, Contains, unwrap_or}
use Rattle.std.specs.Prelude.{codes, map, ◌∷◌, ◌||◌, count_by, nat_lt, if◌then◌else◌}
use Rattle.std.specs.Str.{bytes_eq}
use Rattle.std.specs.Str.Parse.{IsNumeral, digits_value, without_leading_plus}
use Rattle.clap.specs.Words.{Row, Text, all_of, first_of, one_of, matches_of, subcommand_of}
use Rattle.clap.specs.Words.{takes, fault_of}
use Rattle.clap.specs.Kinds.{Kinds, IsAmong, or_else}
use Rattle.clap.specs.declared.error.kind.ErrorKind.{ErrorKind}
use Rattle.clap.specs.declared.error.kind.ErrorKind.TheVariants as kind
use Rattle.hg_job.specs.CommandLine.{heapguard, command_names}
use Rattle.hg_job.specs.declared.job.Job.{Job}
use Rattle.hg_job.specs.declared.job.Job.TheVariants.{Joined, Check, Replay, Race, Test, Show}
use Rattle.hg_job.specs.declared.job.Job.TheVariants.{ExplainJoined, Explain, CheckTrace, ShowJson}
use Rattle.hg_job.specs.declared.job.Job.TheVariants.{ExplainJoinedJson, ExplainJson}
use Rattle.hg_job.specs.declared.job.Job.TheVariants.{State, StateJson, StateMap, StateSvg}
use Rattle.hg_job.specs.declared.job.Task.{Task}
use Rattle.hg_job.specs.declared.job.JobFault.{JobFault}
use Rattle.hg_job.specs.declared.job.JobFault.TheVariants.{Print, Line, Memory}

-- the first value of an operand, and no text where it has none
abbrev pub operand : Text → List Row → Text
operand name rows = unwrap_or (first_of name rows) []

-- all values of an operand, and none where it has none
abbrev pub operands : Text → List Row → List Text
operands name rows = unwrap_or (all_of name rows) []

-- whether an option was given: its value is `true` then, and else `false`
abbrev pub is_given : Text → List Row → Bool
is_given name rows = bytes_eq (operand name rows) (codes "true")

-- the text is a number below 2 ^ 32 in decimal digits, of which the first may be a plus
abbrev pub IsDecimal : Text → Type 0
IsDecimal text =
    IsNumeral 10 (without_leading_plus text)
    × (digits_value 10 (without_leading_plus text) < 2 ^ 32)

-- the number that an operand's text is, and 0 where that is none, or there is no text
abbrev pub IsNumber : Option Text → ℕ → Type 0
IsNumber None number = number ≡ 0
IsNumber (Some text) number =
    (IsDecimal text → number ≡ digits_value 10 (without_leading_plus text))
    × ((IsDecimal text → ⊥) → number ≡ 0)

-- these are the files of both operands
abbrev pub IsOfFiles : List Row → Text → Text → Type 0
IsOfFiles rows policy trace =
    (policy ≡ operand (codes "POLICY") rows) × (trace ≡ operand (codes "TRACE") rows)

-- what stands after the trace of one under the policy of the other is to be told, in the form that is
-- asked for: the first of `--json`, `--map` and `--svg` that is given, and text where none is
abbrev pub IsStateOf : List Row → Job → Type 0
IsStateOf rows (StateJson policy trace) =
    IsOfFiles rows policy.now trace.now × (is_given (codes "json") rows ≡ true)
IsStateOf rows (StateMap policy trace) =
    IsOfFiles rows policy.now trace.now × (is_given (codes "map") rows ≡ true)
    × (is_given (codes "json") rows ≡ false)
IsStateOf rows (StateSvg policy trace) =
    IsOfFiles rows policy.now trace.now × (is_given (codes "svg") rows ≡ true)
    × (is_given (codes "json") rows ≡ false) × (is_given (codes "map") rows ≡ false)
IsStateOf rows (State policy trace) =
    IsOfFiles rows policy.now trace.now × (is_given (codes "json") rows ≡ false)
    × (is_given (codes "map") rows ≡ false) × (is_given (codes "svg") rows ≡ false)
IsStateOf rows _ = ⊥

-- the job of the command of this name, with its operands
abbrev pub IsJobOf : Text → List Row → Job → Type 0
IsJobOf name rows Joined = ⊥
IsJobOf name rows ExplainJoined = ⊥
IsJobOf name rows ExplainJoinedJson = ⊥
IsJobOf name rows (Check policy) =
    (name ≡ codes "check") × (policy.now ≡ operand (codes "POLICY") rows)
    × (first_of (codes "TRACE") rows ≡ None)
IsJobOf name rows (CheckTrace policy trace) =
    (name ≡ codes "check") × (policy.now ≡ operand (codes "POLICY") rows)
    × (first_of (codes "TRACE") rows ≡ Some trace.now)
IsJobOf name rows (Replay policy trace) =
    (name ≡ codes "replay") × (policy.now ≡ operand (codes "POLICY") rows)
    × (trace.now ≡ operand (codes "TRACE") rows) × (is_given (codes "explain") rows ≡ false)
    × (is_given (codes "json") rows ≡ false)
IsJobOf name rows (Explain policy trace) =
    (name ≡ codes "replay") × (policy.now ≡ operand (codes "POLICY") rows)
    × (trace.now ≡ operand (codes "TRACE") rows) × (is_given (codes "explain") rows ≡ true)
    × (is_given (codes "json") rows ≡ false)
IsJobOf name rows (ExplainJson policy trace) =
    (name ≡ codes "replay") × (policy.now ≡ operand (codes "POLICY") rows)
    × (trace.now ≡ operand (codes "TRACE") rows) × (is_given (codes "json") rows ≡ true)
IsJobOf name rows (Race policy rounds) =
    (name ≡ codes "race") × (policy.now ≡ operand (codes "POLICY") rows)
    × IsNumber (one_of (codes "ROUNDS") rows) rounds
IsJobOf name rows (Test policy traces) =
    (name ≡ codes "test") × (policy.now ≡ operand (codes "POLICY") rows)
    × (map (λ trace. trace.now) traces.items ≡ operands (codes "TRACE") rows)
IsJobOf name rows (Show policy) =
    (name ≡ codes "show") × (policy.now ≡ operand (codes "POLICY") rows)
    × (is_given (codes "json") rows ≡ false)
IsJobOf name rows (ShowJson policy) =
    (name ≡ codes "show") × (policy.now ≡ operand (codes "POLICY") rows)
    × (is_given (codes "json") rows ≡ true)
IsJobOf name rows (State policy trace) =
    (name ≡ codes "state") × IsStateOf rows (State policy trace)
IsJobOf name rows (StateJson policy trace) =
    (name ≡ codes "state") × IsStateOf rows (StateJson policy trace)
IsJobOf name rows (StateMap policy trace) =
    (name ≡ codes "state") × IsStateOf rows (StateMap policy trace)
IsJobOf name rows (StateSvg policy trace) =
    (name ≡ codes "state") × IsStateOf rows (StateSvg policy trace)

-- a file of this name is the standard input
abbrev pub is_input : Text → Bool
is_input name = bytes_eq name (codes "-")

-- two of these files are: the policy and a trace, or two traces
abbrev pub is_read_twice : Text → List Text → Bool
is_read_twice policy traces =
    (is_input policy && nat_lt 0 (count_by is_input traces)) || nat_lt 1 (count_by is_input traces)

abbrev pub reads_twice : List Row → Bool
reads_twice rows = is_read_twice (operand (codes "POLICY") rows) (operands (codes "TRACE") rows)

-- more than one form is asked for
abbrev pub has_two_forms : List Row → Bool
has_two_forms rows =
    (is_given (codes "json") rows && is_given (codes "map") rows)
    || ((is_given (codes "json") rows && is_given (codes "svg") rows)
    || (is_given (codes "map") rows && is_given (codes "svg") rows))

abbrev pub clash_faults : List Row → Kinds
clash_faults rows =
    if reads_twice rows || has_two_forms rows then kind.ArgumentConflict ∷ [] else []

-- the words that `help` stands for, as which it is answered
abbrev pub help_words : Option Text → List Text
help_words None = codes "--help" ∷ []
help_words (Some name) = name ∷ codes "--help" ∷ []

abbrev pub help_faults : List Row → Kinds
help_faults rows =
    or_else (fault_of heapguard (help_words (first_of (codes "COMMAND") rows)))
    (kind.InvalidSubcommand ∷ [])

-- whether an option of the program alone was given
abbrev pub has_option : List Row → Bool
has_option options = is_given (codes "explain") options || is_given (codes "json") options

-- what is against a command where the parser has nothing: an option of the program alone before it;
-- that it is `help`; or that two files are the standard input, or more than one form is asked for
abbrev pub against : List Row → Option (Text × List Row) → Kinds
against options None = []
against options (Some p) =
    if has_option options then kind.ArgumentConflict ∷ []
    else (if bytes_eq p.0 (codes "help") then help_faults p.1 else clash_faults p.1)

-- the job of the command that was entered, if any was, behind these options
abbrev pub IsJobAt : List Row → Option (Text × List Row) → Job → Type 0
IsJobAt options None job =
    job ≡ (if is_given (codes "json") options then ExplainJoinedJson
    else (if is_given (codes "explain") options then ExplainJoined else Joined))
IsJobAt options (Some p) job = (against options (Some p) ≡ []) × IsJobOf p.0 p.1 job

-- whether faults are explained: `--explain` was given to the command that was entered, or to the program
-- alone
abbrev pub explains : List Row → Option (Text × List Row) → Bool
explains options None = is_given (codes "explain") options
explains options (Some p) = is_given (codes "explain") p.1

-- what is asked for so: that job, and whether faults are explained
abbrev pub IsTaskAt : List Row → Option (Text × List Row) → Task → Type 0
IsTaskAt options entered task =
    IsJobAt options entered task.job × (task.explain ≡ explains options entered)

-- what is so against words
abbrev pub against_words : List Text → Kinds
against_words words = against (matches_of heapguard words) (subcommand_of heapguard words)

abbrev pub is_none : Kinds → Bool
is_none [] = true
is_none _ = false

-- whether the words are a command line of the program
abbrev pub accepts : List Text → Bool
accepts words = takes heapguard words && is_none (against_words words)

-- what may be against them: what the parser finds, and else this
abbrev pub faults_of : List Text → Kinds
faults_of words = or_else (fault_of heapguard words) (against_words words)

-- the command that was entered, if any was, is one of the program's
abbrev pub IsKnown : Option (Text × List Row) → Type 0
IsKnown None = ⊤
IsKnown (Some p) = Contains command_names p.0

-- the refusal that tells of a kind of error: a text to print where the parser answers with help or
-- with the version, and else a line
abbrev pub TellsOf : ErrorKind → JobFault → Type 0
TellsOf k (Print text) = (k ≡ kind.DisplayHelp) ⊎ (k ≡ kind.DisplayVersion)
TellsOf k (Line text) = (k ≢ kind.DisplayHelp) × (k ≢ kind.DisplayVersion)
TellsOf k Memory = ⊥

-- the refusal tells of one of the kinds, or of want of memory
abbrev pub RefusedBy : Kinds → JobFault → Type 0
RefusedBy kinds e = (e ≡ Memory) ⊎ ((k : ErrorKind) × IsAmong k kinds × TellsOf k e)

-- what the parser states for words is answered so: by the task of the command that is entered, with
-- its operands and options, and only where nothing is against the words; or by a refusal that tells
-- of what is
abbrev pub IsAnswerTo : List Text → Result Task JobFault → Type 0
IsAnswerTo words (Ok task) =
    IsTaskAt (matches_of heapguard words) (subcommand_of heapguard words) task
    × (faults_of words ≡ [])
IsAnswerTo words (Err fault) =
    RefusedBy (faults_of words) fault × (accepts words ≡ true → fault ≡ Memory)
