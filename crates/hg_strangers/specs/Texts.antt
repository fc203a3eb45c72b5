-- What a check of a policy and a trace prints.
use Rattle.std.specs.Prelude.{◌++◌, ℕ, Bool, List, [], Option, codes, decimal}
use Rattle.std.specs.Prelude.{if◌then◌else◌}
use Rattle.std.specs.List.{flat_map, list_any}
use Rattle.hg_machine.specs.Policy.{Policy}
use Rattle.hg_replay.specs.Checks.{counts_line}
use Rattle.hg_trace.specs.declared.line.Line.{Line}
use Rattle.hg_hints.specs.declared.policy_names.Kind.{Kind}
use Rattle.hg_hints.specs.declared.policy_names.Kind.TheVariants as kind
use Rattle.hg_strangers.specs.Mentions.{Mention, lacked, lines_that_say, says_another}
use Rattle.hg_hints.specs.PolicyNames.{near_text, near_to}

abbrev pub kind_text : Kind → List ℕ
kind_text kind.Tenant = codes "tenant "
kind_text kind.Arena = codes "arena "

-- a name that the policy lacks: the first line that says it, one that is like it, and how many lines do
unfoldable pub lacked_text : ℕ → Kind → List ℕ → List ℕ
lacked_text line kind name =
    codes "warning: line " ++ decimal line
    ++ codes ": the policy has no " ++ kind_text kind ++ name

unfoldable pub rest_text : Option (List ℕ) → ℕ → List ℕ
rest_text near lines =
    near_text near ++ codes " (such lines: " ++ decimal lines ++ codes ")\n"

unfoldable pub warning : Policy → List Line → Mention → List ℕ
warning policy lines m =
    lacked_text m.line m.kind m.name
    ++ rest_text (near_to policy m.kind m.name) (lines_that_say lines m)

-- that there are others
unfoldable pub others_text : Bool → List ℕ
others_text others =
    if others then codes "warning: the policy lacks other names of the trace too\n" else []

-- how much the policy names, and what it lacks
unfoldable pub checked : Policy → List Line → List ℕ
checked policy lines =
    counts_line policy ++ flat_map (warning policy lines) (lacked policy lines)
    ++ others_text (list_any (says_another policy (lacked policy lines)) lines)
