-- Laws of what words are answered.
use Rattle.std.specs.Prelude.{⊤, ◌≡◌, ℕ, Bool, true, false, List, [], ◌∷◌, codes, map}
use Rattle.clap.specs.Words.{Text, matches_of, subcommand_of}
use Rattle.hg_job.specs.CommandLine.{heapguard}
use Rattle.hg_job.specs.Jobs.{IsJobAt, RefusedBy, explains, faults_of}
use Rattle.hg_job.specs.declared.job.Job.{Job}
use Rattle.hg_job.specs.declared.job.Job.TheVariants.{Joined, Check, Replay, Race, Test, Show}
use Rattle.hg_job.specs.declared.job.Job.TheVariants.{ExplainJoined, Explain, CheckTrace, ShowJson}
use Rattle.hg_job.specs.declared.job.Job.TheVariants.{ExplainJoinedJson, ExplainJson}
use Rattle.hg_job.specs.declared.job.Job.TheVariants.{State, StateJson, StateMap, StateSvg}
use Rattle.hg_job.specs.declared.job.JobFault.{JobFault}
use Rattle.hg_job.specs.declared.job.JobFault.TheVariants.{Print, Line}

-- a check of the policy of this file
abbrev pub IsCheckOf : Text → Job → Type 0
IsCheckOf file (Check policy) = policy.now ≡ file
IsCheckOf file _ = ⊥

-- a check of the policy of the first file, and of the trace of the second
abbrev pub IsCheckTraceOf : Text → Text → Job → Type 0
IsCheckTraceOf first second (CheckTrace policy trace) =
    (policy.now ≡ first) × (trace.now ≡ second)
IsCheckTraceOf first second _ = ⊥

-- a replay of the second file under the first
abbrev pub IsReplayOf : Text → Text → Job → Type 0
IsReplayOf first second (Replay policy trace) = (policy.now ≡ first) × (trace.now ≡ second)
IsReplayOf first second _ = ⊥

-- the same, with each answer explained
abbrev pub IsExplainOf : Text → Text → Job → Type 0
IsExplainOf first second (Explain policy trace) = (policy.now ≡ first) × (trace.now ≡ second)
IsExplainOf first second _ = ⊥

-- a race of so many rounds under the policy of this file
abbrev pub IsRaceOf : Text → ℕ → Job → Type 0
IsRaceOf file count (Race policy rounds) = (policy.now ≡ file) × (rounds ≡ count)
IsRaceOf file count _ = ⊥

-- a test of these traces under the policy of this file
abbrev pub IsTestOf : Text → List Text → Job → Type 0
IsTestOf file files (Test policy traces) =
    (policy.now ≡ file) × (map (λ trace. trace.now) traces.items ≡ files)
IsTestOf file files _ = ⊥

-- the same, as JSON
abbrev pub IsExplainJsonOf : Text → Text → Job → Type 0
IsExplainJsonOf first second (ExplainJson policy trace) =
    (policy.now ≡ first) × (trace.now ≡ second)
IsExplainJsonOf first second _ = ⊥

-- the policy of this file is to be shown
abbrev pub IsShowOf : Text → Job → Type 0
IsShowOf file (Show policy) = policy.now ≡ file
IsShowOf file _ = ⊥

-- the same, as JSON
abbrev pub IsShowJsonOf : Text → Job → Type 0
IsShowJsonOf file (ShowJson policy) = policy.now ≡ file
IsShowJsonOf file _ = ⊥

-- what stands after the trace of the second file under the policy of the first is to be told, as text,
-- as JSON, as a map, and as a picture
abbrev pub IsStateTextOf : Text → Text → Job → Type 0
IsStateTextOf first second (State policy trace) = (policy.now ≡ first) × (trace.now ≡ second)
IsStateTextOf first second _ = ⊥

abbrev pub IsStateJsonOf : Text → Text → Job → Type 0
IsStateJsonOf first second (StateJson policy trace) = (policy.now ≡ first) × (trace.now ≡ second)
IsStateJsonOf first second _ = ⊥

abbrev pub IsStateMapOf : Text → Text → Job → Type 0
IsStateMapOf first second (StateMap policy trace) = (policy.now ≡ first) × (trace.now ≡ second)
IsStateMapOf first second _ = ⊥

abbrev pub IsStateSvgOf : Text → Text → Job → Type 0
IsStateSvgOf first second (StateSvg policy trace) = (policy.now ≡ first) × (trace.now ≡ second)
IsStateSvgOf first second _ = ⊥

-- the words ask for this job
abbrev pub AskFor : List Text → Job → Type 0
AskFor words job = IsJobAt (matches_of heapguard words) (subcommand_of heapguard words) job

-- where there are no words, and where these words are given, this and no other job is asked for
abbrev pub WordsAreJobs : Type 0
WordsAreJobs =
    (job : Job)
    → (AskFor [] job → job ≡ Joined)
    × (AskFor (codes "check" ∷ codes "p" ∷ []) job → IsCheckOf (codes "p") job)
    × (AskFor (codes "replay" ∷ codes "p" ∷ codes "t" ∷ []) job
    → IsReplayOf (codes "p") (codes "t") job)
    × (AskFor (codes "race" ∷ codes "p" ∷ codes "1000" ∷ []) job → IsRaceOf (codes "p") 1000 job)
    × (AskFor (codes "test" ∷ codes "p" ∷ codes "t" ∷ codes "u" ∷ []) job
    → IsTestOf (codes "p") (codes "t" ∷ codes "u" ∷ []) job)
    × (AskFor (codes "show" ∷ codes "p" ∷ []) job → IsShowOf (codes "p") job)
    × (AskFor (codes "check" ∷ codes "p" ∷ codes "t" ∷ []) job
    → IsCheckTraceOf (codes "p") (codes "t") job)

-- and so where an explanation is asked for, or JSON
abbrev pub OptionsAreJobs : Type 0
OptionsAreJobs =
    (job : Job)
    → (AskFor (codes "--explain" ∷ []) job → job ≡ ExplainJoined)
    × (AskFor (codes "replay" ∷ codes "--explain" ∷ codes "p" ∷ codes "t" ∷ []) job
    → IsExplainOf (codes "p") (codes "t") job)
    × (AskFor (codes "replay" ∷ codes "p" ∷ codes "t" ∷ codes "--explain" ∷ []) job
    → IsExplainOf (codes "p") (codes "t") job)
    × (AskFor (codes "show" ∷ codes "p" ∷ codes "--json" ∷ []) job → IsShowJsonOf (codes "p") job)
    × (AskFor (codes "--json" ∷ []) job → job ≡ ExplainJoinedJson)
    × (AskFor (codes "--explain" ∷ codes "--json" ∷ []) job → job ≡ ExplainJoinedJson)
    × (AskFor (codes "replay" ∷ codes "--json" ∷ codes "p" ∷ codes "t" ∷ []) job
    → IsExplainJsonOf (codes "p") (codes "t") job)

-- and so where what stands after a trace is asked for, in each form
abbrev pub StatesAreJobs : Type 0
StatesAreJobs =
    (job : Job)
    → (AskFor (codes "state" ∷ codes "p" ∷ codes "t" ∷ []) job
    → IsStateTextOf (codes "p") (codes "t") job)
    × (AskFor (codes "state" ∷ codes "p" ∷ codes "t" ∷ codes "--json" ∷ []) job
    → IsStateJsonOf (codes "p") (codes "t") job)
    × (AskFor (codes "state" ∷ codes "--map" ∷ codes "p" ∷ codes "t" ∷ []) job
    → IsStateMapOf (codes "p") (codes "t") job)
    × (AskFor (codes "state" ∷ codes "p" ∷ codes "--svg" ∷ codes "t" ∷ []) job
    → IsStateSvgOf (codes "p") (codes "t") job)

-- the words ask for faults to be explained
abbrev pub are_explained : List Text → Bool
are_explained words = explains (matches_of heapguard words) (subcommand_of heapguard words)

-- with `--explain` behind a command faults are explained, and without it they aren't
abbrev pub OptionsExplain : Type 0
OptionsExplain =
    (are_explained (codes "--explain" ∷ []) ≡ true) × (are_explained [] ≡ false)
    × (are_explained (codes "check" ∷ codes "--explain" ∷ codes "p" ∷ []) ≡ true)
    × (are_explained (codes "check" ∷ codes "p" ∷ []) ≡ false)
    × (are_explained (codes "race" ∷ codes "p" ∷ codes "1000" ∷ codes "--explain" ∷ []) ≡ true)
    × (are_explained (codes "test" ∷ codes "--explain" ∷ codes "p" ∷ codes "t" ∷ []) ≡ true)
    × (are_explained (codes "show" ∷ codes "p" ∷ codes "--explain" ∷ []) ≡ true)
    × (are_explained (codes "state" ∷ codes "p" ∷ codes "t" ∷ codes "--explain" ∷ []) ≡ true)
    × (are_explained (codes "replay" ∷ codes "p" ∷ codes "--explain" ∷ codes "t" ∷ []) ≡ true)

-- a text to print, or want of memory
abbrev pub IsPrinted : JobFault → Type 0
IsPrinted (Line text) = ⊥
IsPrinted _ = ⊤

-- a line, or want of memory
abbrev pub IsTold : JobFault → Type 0
IsTold (Print text) = ⊥
IsTold _ = ⊤

-- help, of the program and of a command, and the version are printed; and a word that is no command,
-- also behind `help`, a race of no rounds, an option twice, one before a command, two files that are
-- the standard input, and two forms of a state, are told
abbrev pub RequestsArePrinted : Type 0
RequestsArePrinted =
    (fault : JobFault)
    → (RefusedBy (faults_of (codes "--help" ∷ [])) fault → IsPrinted fault)
    × (RefusedBy (faults_of (codes "--version" ∷ [])) fault → IsPrinted fault)
    × (RefusedBy (faults_of (codes "jump" ∷ [])) fault → IsTold fault)
    × (RefusedBy (faults_of (codes "race" ∷ codes "p" ∷ codes "0" ∷ [])) fault → IsTold fault)
    × (RefusedBy (faults_of (codes "--explain" ∷ codes "--explain" ∷ [])) fault → IsTold fault)
    × (RefusedBy (faults_of (codes "--explain" ∷ codes "check" ∷ codes "p" ∷ [])) fault
    → IsTold fault)
    × (RefusedBy (faults_of (codes "--json" ∷ codes "show" ∷ codes "p" ∷ [])) fault
    → IsTold fault)
    × (RefusedBy (faults_of (codes "help" ∷ [])) fault → IsPrinted fault)
    × (RefusedBy (faults_of (codes "help" ∷ codes "check" ∷ [])) fault → IsPrinted fault)
    × (RefusedBy (faults_of (codes "help" ∷ codes "jump" ∷ [])) fault → IsTold fault)
    × (RefusedBy (faults_of (codes "replay" ∷ codes "-" ∷ codes "-" ∷ [])) fault → IsTold fault)
    × (RefusedBy
    (faults_of (codes "state" ∷ codes "p" ∷ codes "t" ∷ codes "--json" ∷ codes "--map" ∷ [])) fault
    → IsTold fault)
    × (RefusedBy
    (faults_of (codes "state" ∷ codes "p" ∷ codes "t" ∷ codes "--svg" ∷ codes "--map" ∷ [])) fault
    → IsTold fault)
