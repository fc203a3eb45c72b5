-- What words are answered against which the parser has nothing, and something else may be.
use Rattle.std.proofs.Common.{◌≡◌, ◌∙◌, ◌⊎◌, inl, inr, ap, refl, sym, subst, true, false, Bool, List, [], ◌∷◌, Option, Some, None}
use Rattle.std.proofs.lemmas.Result.{IfOk-weaker, IfErr-weaker}
use Rattle.std.specs.Prelude.{Result, Ok, Err, IfOk, IfErr, option_map, ◌&&◌, ◌||◌, codes, if◌then◌else◌}
use Rattle.std.specs.Str.{bytes_eq}
use Rattle.clap.specs.Words.{App, Row, Text, fault_of, is_simple, is_simple_and_free, matches_of, subcommand_of, takes}
use Rattle.clap.specs.Kinds.{Kinds, IsAmong, or_else}
use Rattle.clap.specs.declared.error.kind.ErrorKind.{ErrorKind}
use Rattle.clap.specs.declared.error.kind.ErrorKind.TheVariants.{ArgumentConflict}
use Rattle.hg_job.specs.CommandLine.{heapguard}
use Rattle.hg_job.specs.Jobs.{IsJobAt, IsJobOf, IsKnown, IsTaskAt, RefusedBy, TellsOf, accepts, against, against_words, faults_of}
use Rattle.hg_job.specs.Jobs.{clash_faults, has_option, has_two_forms, help_faults, is_none, reads_twice}
use Rattle.hg_job.specs.declared.job.Job.{Job}
use Rattle.hg_job.specs.declared.job.Task.{Task}
use Rattle.hg_job.specs.declared.job.JobFault.{JobFault}
use Rattle.hg_job.specs.declared.job.JobFault.TheVariants.{Memory}
use Rattle.hg_job.proofs.CommandLemmas.{at_free, at_simple, subcommand_known}

first_of_both : (a b : Bool) → (a && b) ≡ true → a ≡ true
first_of_both true b h = refl
first_of_both false b h = absurd (cc)

second_of_both : (a b : Bool) → (a && b) ≡ true → b ≡ true
second_of_both true b h = h
second_of_both false b h = absurd (cc)

-- nothing is against a task
task_unopposed : (options : List Row) (entered : Option (Text × List Row)) (task : Task) → IsTaskAt options entered task → against options entered ≡ []
task_unopposed options None task is = refl
task_unopposed options (Some p) task ((unopposed, is), explains) = unopposed

-- where nothing may be told, memory was refused
memory_alone : (kinds : Kinds) (fault : JobFault) → RefusedBy kinds fault → is_none kinds ≡ true → fault ≡ Memory
memory_alone kinds fault (inl memory) none = memory
memory_alone [] fault (inr (k, among, tells)) none = absurd among
memory_alone (x ∷ xs) fault (inr (k, among, tells)) none = absurd (cc)

among_first : (k : ErrorKind) (kinds next : Kinds) → IsAmong k kinds → IsAmong k (or_else kinds next)
among_first k [] next among = absurd among
among_first k (x ∷ xs) next among = among

-- what the parser finds is found first
pub refused_first : (kinds next : Kinds) (fault : JobFault) → RefusedBy kinds fault → RefusedBy (or_else kinds next) fault
refused_first kinds next fault (inl memory) = inl memory
refused_first kinds next fault (inr (k, among, tells)) = inr (k, among_first k kinds next among, tells)

-- what is told where the parser has nothing against words
pub told_alone : (kinds : Kinds) (k : ErrorKind) (fault : JobFault) → kinds ≡ [] → (fault ≡ Memory) ⊎ TellsOf k fault
    → RefusedBy (or_else kinds (k ∷ [])) fault
told_alone [] k fault none (inl memory) = inl memory
told_alone [] k fault none (inr tells) = inr (k, inl refl, tells)
told_alone (x ∷ xs) k fault none told = absurd (cc)

either_first : (a b : Bool) → a ≡ true → (a || b) ≡ true
either_first true b h = refl
either_first false b h = absurd (cc)

either_second : (a b : Bool) → b ≡ true → (a || b) ≡ true
either_second true b h = refl
either_second false b h = h

clash_told : (rows : List Row) (fault : JobFault) → (reads_twice rows || has_two_forms rows) ≡ true
    → (fault ≡ Memory) ⊎ TellsOf ArgumentConflict fault → RefusedBy (clash_faults rows) fault
clash_told rows fault clash told =
    let alone : clash_faults rows ≡ ArgumentConflict ∷ [] = ap (λ b. if b then ArgumentConflict ∷ [] else []) clash in
    subst (λ kinds. RefusedBy kinds fault) (sym alone) (told_alone [] ArgumentConflict fault refl told)

-- what is told of two files that are the standard input
pub twice_told : (rows : List Row) (fault : JobFault) → reads_twice rows ≡ true
    → (fault ≡ Memory) ⊎ TellsOf ArgumentConflict fault → RefusedBy (clash_faults rows) fault
twice_told rows fault twice = clash_told rows fault (either_first (reads_twice rows) (has_two_forms rows) twice)

-- and of more forms than one
pub forms_told : (rows : List Row) (fault : JobFault) → has_two_forms rows ≡ true
    → (fault ≡ Memory) ⊎ TellsOf ArgumentConflict fault → RefusedBy (clash_faults rows) fault
forms_told rows fault two = clash_told rows fault (either_second (reads_twice rows) (has_two_forms rows) two)

-- a name and rows that a command has are those of the pair that it is
pub entered_as : {A : Type 0} (f : A → Text) (g : A → List Row) (entered : Option A) (name : Text) (rows : List Row)
    → Some name ≡ option_map f entered → Some rows ≡ option_map (λ (p : Text × List Row). p.1) (option_map (λ b. (f b, g b)) entered)
    → ◌≡◌ {A = Option (Text × List Row)} (Some (name, rows)) (option_map (λ b. (f b, g b)) entered)
entered_as f g None name rows named has = absurd (cc)
entered_as f g (Some b) name rows named has = cc

module _ (options : List Row) (p : Text × List Row) where
  abbrev behind : Kinds
  behind = if bytes_eq p.0 (codes "help") then help_faults p.1 else clash_faults p.1

  against_before : has_option options ≡ true → against options (Some p) ≡ ArgumentConflict ∷ []
  against_before given = ap (λ b. if b then ArgumentConflict ∷ [] else behind) given

  against_behind : has_option options ≡ false → against options (Some p) ≡ behind
  against_behind given = ap (λ b. if b then ArgumentConflict ∷ [] else behind) given

  against_help : has_option options ≡ false → bytes_eq p.0 (codes "help") ≡ true → against options (Some p) ≡ help_faults p.1
  against_help given help = against_behind given ∙ ap (λ b. if b then help_faults p.1 else clash_faults p.1) help

  pub against_other : has_option options ≡ false → bytes_eq p.0 (codes "help") ≡ false → against options (Some p) ≡ clash_faults p.1
  against_other given help = against_behind given ∙ ap (λ b. if b then help_faults p.1 else clash_faults p.1) help

  -- what is told of an option before a command
  pub before_told : (fault : JobFault) → has_option options ≡ true
      → (fault ≡ Memory) ⊎ TellsOf ArgumentConflict fault → RefusedBy (against options (Some p)) fault
  before_told fault given told =
      subst (λ kinds. RefusedBy kinds fault) (sym (against_before given)) (told_alone [] ArgumentConflict fault refl told)

  -- what `help` is answered
  pub help_told : (fault : JobFault) → has_option options ≡ false → bytes_eq p.0 (codes "help") ≡ true
      → RefusedBy (help_faults p.1) fault → RefusedBy (against options (Some p)) fault
  help_told fault given help = subst (λ kinds. RefusedBy kinds fault) (sym (against_help given help))

  -- what another command is answered
  pub job_other : (answer : Result Job JobFault) → has_option options ≡ false → bytes_eq p.0 (codes "help") ≡ false
      → IfOk answer (IsJobOf p.0 p.1) → IfOk answer (λ _. clash_faults p.1 ≡ []) → IfOk answer (IsJobAt options (Some p))
  job_other (Ok job) given help is once = (against_other given help ∙ once, is)
  job_other (Err fault) given help is once = is

  pub refused_other : (answer : Result Job JobFault) → has_option options ≡ false → bytes_eq p.0 (codes "help") ≡ false
      → IfErr answer (RefusedBy (clash_faults p.1)) → IfErr answer (RefusedBy (against options (Some p)))
  refused_other answer given help refused =
      subst (λ kinds. IfErr answer (RefusedBy kinds)) (sym (against_other given help)) refused

module _ (words : List Text) where
  -- what is against words against which the parser has nothing
  against_alone : fault_of heapguard words ≡ [] → faults_of words ≡ against_words words
  against_alone none = ap (λ kinds. or_else kinds (against_words words)) none

  -- words that are accepted the parser takes
  pub accepted_taken : accepts words ≡ true → takes heapguard words ≡ true
  accepted_taken taken = first_of_both (takes heapguard words) (is_none (against_words words)) taken

  -- where a parse by the program's command found these options and this command
  module _ (options : List Row) (entered : Option (Text × List Row)) (command : App) (is : command ≡ heapguard)
      (found : is_simple command ≡ true → (options ≡ matches_of command words) × (entered ≡ subcommand_of command words)) where
    options_are : options ≡ matches_of heapguard words
    options_are = at_simple (λ a. options ≡ matches_of a words) command is (λ simple. (found simple).0)

    entered_is : entered ≡ subcommand_of heapguard words
    entered_is = at_simple (λ a. entered ≡ subcommand_of a words) command is (λ simple. (found simple).1)

    against_is : against_words words ≡ against options entered
    against_is = sym (ap (λ o. against o entered) options_are ∙ ap (against (matches_of heapguard words)) entered_is)

    pub known_entered : IsKnown entered
    known_entered = subst IsKnown (sym entered_is) (subcommand_known words)

    pub task_found : (answer : Result Task JobFault) → IfOk answer (IsTaskAt options entered)
        → IfOk answer (IsTaskAt (matches_of heapguard words) (subcommand_of heapguard words))
    task_found answer of_found =
        subst (λ e. IfOk answer (IsTaskAt (matches_of heapguard words) e)) entered_is
        (subst (λ o. IfOk answer (IsTaskAt o entered)) options_are of_found)

    not_accepted : (fault : JobFault) → RefusedBy (against options entered) fault → accepts words ≡ true → fault ≡ Memory
    not_accepted fault refused taken =
        memory_alone (against options entered) fault refused
        (ap is_none (sym against_is) ∙ second_of_both (takes heapguard words) (is_none (against_words words)) taken)

    pub opposed_not_accepted : (answer : Result Task JobFault) → IfErr answer (RefusedBy (against options entered))
        → IfErr answer (λ fault. accepts words ≡ true → fault ≡ Memory)
    opposed_not_accepted answer = IfErr-weaker answer (RefusedBy (against options entered)) (λ fault. accepts words ≡ true → fault ≡ Memory) not_accepted

    -- and the parser has nothing against the words
    module _ (free : is_simple_and_free command ≡ true → fault_of command words ≡ []) where
      faults_are : faults_of words ≡ against options entered
      faults_are = against_alone (at_free (λ a. fault_of a words ≡ []) command is free) ∙ against_is

      faultless_task : (task : Task) → IsTaskAt options entered task → faults_of words ≡ []
      faultless_task task of_found = faults_are ∙ task_unopposed options entered task of_found

      pub faultless : (answer : Result Task JobFault) → IfOk answer (IsTaskAt options entered) → IfOk answer (λ _. faults_of words ≡ [])
      faultless answer = IfOk-weaker answer (IsTaskAt options entered) (λ _. faults_of words ≡ []) faultless_task

      refused_one : (fault : JobFault) → RefusedBy (against options entered) fault → RefusedBy (faults_of words) fault
      refused_one fault = subst (λ kinds. RefusedBy kinds fault) (sym faults_are)

      -- what is against the words, or want of memory
      pub opposed_refused : (answer : Result Task JobFault) → IfErr answer (RefusedBy (against options entered)) → IfErr answer (RefusedBy (faults_of words))
      opposed_refused answer = IfErr-weaker answer (RefusedBy (against options entered)) (RefusedBy (faults_of words)) refused_one
