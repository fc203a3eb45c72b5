-- Lines as a trace keeps them: names and labels by their numbers, and what a number stands for.
use Rattle.std.specs.Prelude.{◌≡◌, ℕ, true, List, [], map, Option, Some, None}
use Rattle.std.specs.Prelude.{length, option_map, unwrap_or, slice_get, is_some, All}
use Rattle.hg_trace.specs.declared.line.BlockName.{BlockName}
use Rattle.hg_trace.specs.declared.line.BlockName.TheVariants as block_name
use Rattle.hg_trace.specs.declared.line.Command.{Command}
use Rattle.hg_trace.specs.declared.line.Command.TheVariants as command
use Rattle.hg_trace.specs.declared.line.Line.{Line}
use Rattle.hg_trace.specs.declared.stored.StoredBlock.{StoredBlock}
use Rattle.hg_trace.specs.declared.stored.StoredBlock.TheVariants as stored_block
use Rattle.hg_trace.specs.declared.stored.StoredCommand.{StoredCommand}
use Rattle.hg_trace.specs.declared.stored.StoredCommand.TheVariants as stored
use Rattle.hg_trace.specs.declared.stored.StoredLine.{StoredLine}
use Rattle.hg_trace.specs.Labels.{label_count}
use Rattle.hg_trace.specs.Workers.{first_from}

-- the names of tenants and arenas, the labels, and the lines, which name both by their numbers
pub record Store : Type 0 where
  pub names : List (List ℕ)
  pub labels : List (List ℕ)
  pub lines : List StoredLine

-- what a number stands for among these
abbrev pub named : List (List ℕ) → ℕ → List ℕ
named names number = unwrap_or (slice_get names number) []

abbrev pub block_in : StoredBlock → BlockName
block_in (stored_block.Handle handle) = block_name.Handle handle
block_in (stored_block.Label label) = block_name.Label label

-- what a stored command says, where these are the names and the labels
abbrev pub command_in : List (List ℕ) → List (List ℕ) → StoredCommand → Command
command_in names labels (stored.Alloc actor arena bytes label) =
    command.Alloc (named names actor) (named names arena) bytes (option_map (named labels) label)
command_in names labels (stored.Free actor block) =
    command.Free (named names actor) (block_in block)
command_in names labels stored.Deliver = command.Deliver
command_in names labels (stored.Take segment) = command.Take segment
command_in names labels stored.Collect = command.Collect
command_in names labels (stored.Read actor block index) =
    command.Read (named names actor) (block_in block) index
command_in names labels (stored.Write actor block index value) =
    command.Write (named names actor) (block_in block) index value
command_in names labels (stored.Look actor place) = command.Look (named names actor) place
command_in names labels (stored.List actor) = command.List (named names actor)
command_in names labels (stored.Abandon segment) = command.Abandon segment
command_in names labels (stored.Refill arena) = command.Refill (named names arena)

abbrev pub line_in : List (List ℕ) → List (List ℕ) → StoredLine → Line
line_in names labels line = record {
  number = line.number;
  worker = line.worker;
  command = command_in names labels line.command;
}

-- the lines that are kept
abbrev pub lines_in : Store → List Line
lines_in store = map (line_in store.names store.labels) store.lines

-- a number stands for one of these
abbrev pub IsNumber : List (List ℕ) → ℕ → Type 0
IsNumber names number = is_some (slice_get names number) ≡ true

abbrev pub IsLabelNumber : List (List ℕ) → Option ℕ → Type 0
IsLabelNumber labels None = Unit {0}
IsLabelNumber labels (Some label) = IsNumber labels label

-- each number in a command stands for a name or a label
abbrev pub IsNumbered : List (List ℕ) → List (List ℕ) → StoredCommand → Type 0
IsNumbered names labels (stored.Alloc actor arena bytes label) =
    IsNumber names actor × IsNumber names arena × IsLabelNumber labels label
IsNumbered names labels (stored.Free actor block) = IsNumber names actor
IsNumbered names labels stored.Deliver = Unit {0}
IsNumbered names labels (stored.Take segment) = Unit {0}
IsNumbered names labels stored.Collect = Unit {0}
IsNumbered names labels (stored.Read actor block index) = IsNumber names actor
IsNumbered names labels (stored.Write actor block index value) = IsNumber names actor
IsNumbered names labels (stored.Look actor place) = IsNumber names actor
IsNumbered names labels (stored.List actor) = IsNumber names actor
IsNumbered names labels (stored.Abandon segment) = Unit {0}
IsNumbered names labels (stored.Refill arena) = IsNumber names arena

abbrev pub AreNumbered : Store → Type 0
AreNumbered store = All (λ line. IsNumbered store.names store.labels line.command) store.lines

-- the label that a command gives, if it gives one, stands among these at that number
abbrev pub IsGivenAt : List (List ℕ) → ℕ → Command → Type 0
IsGivenAt labels number (command.Alloc actor arena bytes (Some label)) =
    slice_get labels number ≡ Some label
IsGivenAt labels number _ = Unit {0}

-- a stored command says this one, wherever the label that it gives has this number
pub record Says (names : List (List ℕ)) (number : ℕ) (c : Command) (kept : StoredCommand)
    : Type 0 where
  pub numbered : (labels : List (List ℕ)) → IsGivenAt labels number c → IsNumbered names labels kept
  pub said : (labels : List (List ℕ)) → IsGivenAt labels number c → command_in names labels kept ≡ c

-- what is kept beside: each label once, and for each worker the number of the first line of a
-- worker from that one on
pub record IsStore (store : Store) (least : List ℕ) : Type 0 where
  pub numbered : AreNumbered store
  pub labels : length store.labels ≡ label_count (lines_in store)
  pub firsts : (worker : ℕ) → slice_get least worker ≡ first_from worker (lines_in store)
