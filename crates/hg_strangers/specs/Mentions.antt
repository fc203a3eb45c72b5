-- Names that the lines of a trace say, and those that a policy lacks.
use Rattle.std.specs.Prelude.{◌&&◌, ◌||◌, ◌++◌, ◌∷◌, ℕ, Bool, true, false, List, [], Option, Some, None}
use Rattle.std.specs.Prelude.{count_by, fold, is_some, length, nat_le, not, if◌then◌else◌}
use Rattle.std.specs.List.{flat_map, list_any}
use Rattle.std.specs.Str.{bytes_eq}
use Rattle.hg_machine.specs.Policy.{Policy}
use Rattle.hg_policy.specs.Names.{arena_number, tenant_number}
use Rattle.hg_trace.specs.declared.line.Command.{Command}
use Rattle.hg_trace.specs.declared.line.Command.TheVariants as command
use Rattle.hg_trace.specs.declared.line.Line.{Line}
use Rattle.hg_hints.specs.declared.policy_names.Kind.{Kind}
use Rattle.hg_hints.specs.declared.policy_names.Kind.TheVariants as kind
use Rattle.hg_strangers.specs.declared.mention.Mention as kept

-- a name as what it stands for, and the number of a line that says it
pub record Mention : Type 0 where
  pub kind : Kind
  pub name : List ℕ
  pub line : ℕ

-- what is kept of one
abbrev pub seen : kept.Mention → Mention
seen m = record { kind = m.kind; name = m.name.now; line = m.line }

-- the name of who asks, and that of the arena, as a command says them
abbrev pub actor_said : Command → Option (List ℕ)
actor_said (command.Alloc actor arena bytes label) = Some actor
actor_said (command.Free actor block) = Some actor
actor_said (command.Read actor block index) = Some actor
actor_said (command.Write actor block index value) = Some actor
actor_said (command.Look actor place) = Some actor
actor_said (command.List actor) = Some actor
actor_said _ = None

abbrev pub arena_said : Command → Option (List ℕ)
arena_said (command.Alloc actor arena bytes label) = Some arena
arena_said (command.Refill arena) = Some arena
arena_said _ = None

abbrev pub said : Kind → Command → Option (List ℕ)
said kind.Tenant c = actor_said c
said kind.Arena c = arena_said c

-- the policy has a tenant, or an arena, of this name
abbrev pub knows : Policy → Kind → List ℕ → Bool
knows policy kind.Tenant name = is_some (tenant_number policy name)
knows policy kind.Arena name = is_some (arena_number policy name)

-- what a line says and the policy lacks, as who asks, and as an arena
abbrev pub lacked_name : Policy → Kind → ℕ → Option (List ℕ) → List Mention
lacked_name policy stands number None = []
lacked_name policy stands number (Some name) =
    if knows policy stands name then []
    else record { kind = stands; name = name; line = number } ∷ []

abbrev pub lacked_of : Policy → Kind → Line → List Mention
lacked_of policy stands line = lacked_name policy stands line.number (said stands line.command)

abbrev pub lacked_in : Policy → Line → List Mention
lacked_in policy line = lacked_of policy kind.Tenant line ++ lacked_of policy kind.Arena line

-- one that there may be, as a list
abbrev pub option_list : {T : Type 0} → Option T → List T
option_list None = []
option_list (Some x) = x ∷ []

-- a kind is this one
abbrev pub is_kind : Kind → Kind → Bool
is_kind kind.Tenant kind.Tenant = true
is_kind kind.Arena kind.Arena = true
is_kind _ _ = false

-- two mentions are of one name, as the same
abbrev pub is_same : Mention → Mention → Bool
is_same a b = is_kind a.kind b.kind && bytes_eq a.name b.name

-- it is of a name among these
abbrev pub is_among : List Mention → Mention → Bool
is_among mentions m = list_any (is_same m) mentions

-- with a mention more, unless it is of a name among them, or they are 64
abbrev pub noted : List Mention → Mention → List Mention
noted mentions m =
    if is_among mentions m || nat_le 64 (length mentions) then mentions else mentions ++ m ∷ []

-- the first 64 names that lines say and the policy lacks, each where it is said first
abbrev pub noted_in : Policy → List Mention → Line → List Mention
noted_in policy mentions line = fold noted mentions (lacked_in policy line)

abbrev pub lacked : Policy → List Line → List Mention
lacked policy lines = fold (noted_in policy) [] lines

-- a line says another that the policy lacks
abbrev pub says_another : Policy → List Mention → Line → Bool
says_another policy mentions line =
    list_any (λ m. not (is_among mentions m)) (lacked_in policy line)

-- how many lines say a name
abbrev pub is_name : List ℕ → Option (List ℕ) → Bool
is_name name None = false
is_name name (Some other) = bytes_eq other name

abbrev pub says : Mention → Line → Bool
says m line = is_name m.name (said m.kind line.command)

abbrev pub lines_that_say : List Line → Mention → ℕ
lines_that_say lines m = count_by (says m) lines
