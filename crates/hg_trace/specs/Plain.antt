-- Which lines are plain: names of a name's form, numbers in their ranges, labels that are known.
use Rattle.std.specs.Prelude.{◌≡◌, ◌≢◌, ℕ, ◌+◌, ◌<◌, ◌^◌, true, false, List, [], ◌∷◌}
use Rattle.std.specs.Prelude.{Option, Some, None, length}
use Rattle.std.specs.List.{AllPass, AllPairs}
use Rattle.hg_place.specs.declared.Handle.{Handle}
use Rattle.hg_place.specs.declared.geometry.TheConstants.{MAX_SEGMENTS}
use Rattle.hg_policy_text.specs.NameForm.{is_name}
use Rattle.hg_policy.specs.Names.{is_among}
use Rattle.hg_trace.specs.declared.line.BlockName.{BlockName}
use Rattle.hg_trace.specs.declared.line.BlockName.TheVariants as block_name
use Rattle.hg_trace.specs.declared.line.Command.{Command}
use Rattle.hg_trace.specs.declared.line.Command.TheVariants as command
use Rattle.hg_trace.specs.declared.line.Line.{Line}
use Rattle.hg_trace.specs.Labels.{with_label}

-- what earlier lines gave: each has a name's form, and no two are the same
pub record AreLabels (labels : List (List ℕ)) : Type 0 where
  pub names : AllPass is_name labels
  pub once : AllPairs (λ one other. one ≢ other) labels

abbrev pub IsName : List ℕ → Type 0
IsName text = is_name text ≡ true

-- the place of a handle is in its ranges, and its generation is at least 1, as that of each handle
abbrev pub IsPlainHandle : Handle → Type 0
IsPlainHandle handle = handle.generation < 2 ^ 32

-- a label is named by its number among those that earlier lines gave
abbrev pub IsPlainBlock : List (List ℕ) → BlockName → Type 0
IsPlainBlock labels (block_name.Handle handle) = IsPlainHandle handle
IsPlainBlock labels (block_name.Label n) = n < length labels

-- a label that the line gives is none that an earlier line gave
abbrev pub IsNewLabel : List (List ℕ) → Option (List ℕ) → Type 0
IsNewLabel labels None = Unit {0}
IsNewLabel labels (Some label) = IsName label × (is_among label labels ≡ false)

abbrev pub IsPlainCommand : List (List ℕ) → Command → Type 0
IsPlainCommand labels (command.Alloc actor arena bytes label) =
    IsName actor × IsName arena × (bytes < 2 ^ 64) × IsNewLabel labels label
IsPlainCommand labels (command.Free actor block) = IsName actor × IsPlainBlock labels block
IsPlainCommand labels command.Deliver = Unit {0}
IsPlainCommand labels (command.Take segment) = segment < MAX_SEGMENTS
IsPlainCommand labels command.Collect = Unit {0}
IsPlainCommand labels (command.Read actor block index) =
    IsName actor × IsPlainBlock labels block × (index < 2 ^ 32)
IsPlainCommand labels (command.Write actor block index value) =
    IsName actor × IsPlainBlock labels block × (index < 2 ^ 32) × (value < 2 ^ 64)
IsPlainCommand labels (command.Look actor place) = IsName actor
IsPlainCommand labels (command.List actor) = IsName actor
IsPlainCommand labels (command.Abandon segment) = segment < MAX_SEGMENTS
IsPlainCommand labels (command.Refill arena) = IsName arena

-- there are at most 16 workers
pub record IsPlain (labels : List (List ℕ)) (worker : ℕ) (command : Command) : Type 0 where
  pub worker_below : worker < 16
  pub command_plain : IsPlainCommand labels command

-- each line is plain, where earlier lines gave these labels
abbrev pub ArePlain : List (List ℕ) → List Line → Type 0
ArePlain labels [] = Unit {0}
ArePlain labels (line ∷ lines) =
    IsPlain labels line.worker line.command × ArePlain (with_label labels line.command) lines

-- lines one after another, the first of which has this number
abbrev pub AreNumbered : ℕ → List Line → Type 0
AreNumbered number [] = Unit {0}
AreNumbered number (line ∷ lines) = (line.number ≡ number) × AreNumbered (number + 1) lines
