-- What the written command line is, and what a parse of it can enter.
use Rattle.std.proofs.Common.{◌≡◌, ◌∙◌, ◌⊎◌, inl, inr, ap, arith, refl, subst, true, false, Bool, suc, List, [], ◌∷◌, Option, Some, None, option_map, unwrap_or, Bor}
use Rattle.std.specs.Prelude.{⊤, if◌then◌else◌, map, find, Contains}
use Rattle.clap.specs.Words.{App, Shape, Text, is_simple, subcommand_of}
use Rattle.clap.specs.Simple.{argument_words, built, entered, label_of, names_of, rows_at}
use Rattle.clap.specs.Walk.{answers_to, stop_after, Row}
use Rattle.clap.specs.Faults.{is_simple_and_free}
use Rattle.clap.specs.Kinds.{Kinds, HasKind}
use Rattle.clap.specs.Values.{kind_of}
use Rattle.clap.specs.declared.error.Error.{Error}
use Rattle.clap.specs.declared.error.kind.ErrorKind.TheVariants.{OutOfMemory}
use Rattle.hg_job.specs.declared.job.JobFault.{JobFault}
use Rattle.hg_job.specs.declared.job.JobFault.TheVariants.{Memory}
use Rattle.hg_job.specs.CommandLine.{heapguard, command_names}
use Rattle.hg_job.specs.Jobs.{IsKnown, RefusedBy, TellsOf}

-- the text behind a reference or behind the one that stands for it
pub unwrap_or-now : (o : Option (Bor Text)) (other : Bor Text)
    → (unwrap_or o other).now ≡ unwrap_or (option_map (λ s. s.now) o) other.now
unwrap_or-now None other = refl
unwrap_or-now (Some s) other = refl

pub is_simple-heapguard : is_simple heapguard ≡ true
is_simple-heapguard = refl

pub is_simple_and_free-heapguard : is_simple_and_free heapguard ≡ true
is_simple_and_free-heapguard = refl

-- what holds of a simple command holds of the program's
pub at_simple : (P : App → Type 0) (a : App) → a ≡ heapguard → (is_simple a ≡ true → P a) → P heapguard
at_simple P a e f = subst P e (f (ap is_simple e ∙ is_simple-heapguard))

pub at_free : (P : App → Type 0) (a : App) → a ≡ heapguard → (is_simple_and_free a ≡ true → P a) → P heapguard
at_free P a e f = subst P e (f (ap is_simple_and_free e ∙ is_simple_and_free-heapguard))

-- the command that was entered, if any was, has one of the names
abbrev EntersOneOf : List Text → Option (Text × List Row) → Type 0
EntersOneOf names None = ⊤
EntersOneOf names (Some p) = Contains names p.0

later : (name : Text) (names : List Text) (p : Option (Text × List Row)) → EntersOneOf names p → EntersOneOf (name ∷ names) p
later name names None h = tt
later name names (Some p) h =
    let below = h.1 in
    (suc h.0, omega arith, h.2)

at_first : (words : List Text) (s : Shape) (rest : Option Shape) (names : List Text) (b : Bool)
    → EntersOneOf names (option_map (λ s. rows_at s words) rest)
    → EntersOneOf (s.name ∷ names) (option_map (λ s. rows_at s words) (if b then Some s else rest))
at_first words s rest names true h = (0, omega arith, refl)
at_first words s rest names false h = later s.name names _ h

-- a command that was found in a list has one of its names
found_named : (name : Text) (words : List Text) (subs : List Shape)
    → EntersOneOf (map (λ s. s.name) subs) (option_map (λ s. rows_at s words) (find (λ s. answers_to name (label_of s)) subs))
found_named name words [] = tt
found_named name words (s ∷ subs) = at_first words s _ _ _ (found_named name words subs)

entered_named : (a : App) (stop : Option (Text × List Text)) → EntersOneOf (map (λ s. s.name) a.subs) (entered a stop)
entered_named a None = tt
entered_named a (Some p) = found_named p.0 p.1 a.subs

as_known : (p : Option (Text × List Row)) → EntersOneOf command_names p → IsKnown p
as_known None h = tt
as_known (Some p) h = h

-- the words enter no command but the program's
pub subcommand_known : (words : List Text) → IsKnown (subcommand_of heapguard words)
subcommand_known words = as_known _ (entered_named (built heapguard)
    (stop_after (built heapguard).top.rules (names_of (built heapguard)) (argument_words heapguard words)))

-- a refusal that tells of the error's kind tells of one that the words may have
pub refused_by : (kinds : Kinds) (e : Error) (r : JobFault) → (kind_of e ≡ OutOfMemory → r ≡ Memory)
    → (r ≡ Memory) ⊎ TellsOf (kind_of e) r → HasKind kinds e → RefusedBy kinds r
refused_by kinds e r memory told (inl is) = inl (memory is)
refused_by kinds e r memory (inl is) (inr among) = inl is
refused_by kinds e r memory (inr tells) (inr among) = inr (kind_of e, among, tells)
