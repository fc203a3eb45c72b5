-- Labels, in the order in which lines give them.
use Rattle.std.specs.Prelude.{ℕ, Bool, true, false, List, [], ◌∷◌, ◌++◌, Some, count_by}
use Rattle.hg_policy.specs.Names.{is_among}
use Rattle.hg_trace.specs.declared.line.Command.{Command}
use Rattle.hg_trace.specs.declared.line.Command.TheVariants as command
use Rattle.hg_trace.specs.declared.line.Line.{Line}

abbrev pub gives_label : Command → Bool
gives_label (command.Alloc actor arena bytes (Some label)) = true
gives_label _ = false

-- how many labels the lines give
abbrev pub label_count : List Line → ℕ
label_count lines = count_by (λ line. gives_label line.command) lines

-- whether a command gives a label again
abbrev pub repeats : List (List ℕ) → Command → Bool
repeats labels (command.Alloc actor arena bytes (Some label)) = is_among label labels
repeats labels _ = false

-- a label that a command gives goes behind the others
abbrev pub with_label : List (List ℕ) → Command → List (List ℕ)
with_label labels (command.Alloc actor arena bytes (Some label)) = labels ++ label ∷ []
with_label labels _ = labels

-- the labels once these lines have given theirs
abbrev pub labels_after : List (List ℕ) → List Line → List (List ℕ)
labels_after labels [] = labels
labels_after labels (line ∷ lines) = labels_after (with_label labels line.command) lines
