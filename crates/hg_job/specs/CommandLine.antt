-- The command line of the program, as what its parser reads of it.
use Rattle.std.specs.Prelude.{true, List, Some, map, codes, pos}
use Rattle.clap.specs.Lexer.{usize_max}
use Rattle.clap.specs.Words.{App, Rule, Text, new_app, new_rule, with_rule, with_subcommand}
use Rattle.clap.specs.declared.builder.action.ArgAction.TheVariants.{SetTrue}
use Rattle.clap.specs.declared.builder.value_parser.ValueParser.TheVariants as parser

-- an operand that has to be there
abbrev pub required : Text → Rule
required name = record (new_rule name) { required = true }

-- one that has to be a whole number from 1 to 1,000,000
abbrev pub counted : Text → Rule
counted name = record (required name) { parser = Some (parser.Signed (pos 1) (pos 1000000)) }

-- one that has to be there, once or more
abbrev pub several : Text → Rule
several name = record (required name) {
  range = Some (record { start_inclusive = 1; end_inclusive = usize_max });
}

-- an option that is there or not
abbrev pub flag : Text → Rule
flag name = record (new_rule name) { long = Some name; action = Some SetTrue }

-- an operand that may be left out
abbrev pub optional : Text → Rule
optional name = new_rule name

-- a command of which the policy is the first operand
abbrev pub of_policy : Text → App
of_policy name = with_rule (new_app name) (required (codes "POLICY"))

abbrev pub check : App
check =
    with_rule
    (with_rule (of_policy (codes "check"))
    (optional (codes "TRACE")))
    (flag (codes "explain"))

-- a replay by its operands, and by its options too
abbrev pub replaying : App
replaying =
    with_rule (of_policy (codes "replay"))
    (required (codes "TRACE"))

abbrev pub replay : App
replay = with_rule (with_rule replaying (flag (codes "explain"))) (flag (codes "json"))

abbrev pub race : App
race =
    with_rule
    (with_rule (of_policy (codes "race"))
    (counted (codes "ROUNDS")))
    (flag (codes "explain"))

abbrev pub test : App
test =
    with_rule
    (with_rule (of_policy (codes "test"))
    (several (codes "TRACE")))
    (flag (codes "explain"))

abbrev pub show : App
show =
    with_rule
    (with_rule (of_policy (codes "show"))
    (flag (codes "json")))
    (flag (codes "explain"))

-- what stands after a trace: by its operands, with the options for JSON and a map, and with all
abbrev pub standing : App
standing =
    with_rule (of_policy (codes "state"))
    (required (codes "TRACE"))

abbrev pub formed : App
formed = with_rule (with_rule standing (flag (codes "json"))) (flag (codes "map"))

abbrev pub state : App
state = with_rule (with_rule formed (flag (codes "svg"))) (flag (codes "explain"))

-- the program alone: its words come without its own name, and help and the version are asked for by
-- flags
abbrev pub named : App
named = record (new_app (codes "heapguard")) {
  top = record (new_app (codes "heapguard")).top {
    no_binary_name = true;
    disable_help_subcommand = true;
    has_version = true;
  };
}

-- the same, with its options
abbrev pub alone : App
alone = with_rule (with_rule named (flag (codes "explain"))) (flag (codes "json"))

-- a command of its own asks for help, of the program or of a command
abbrev pub help : App
help = with_rule (new_app (codes "help")) (optional (codes "COMMAND"))

-- the program with the commands that read a policy or a trace once, with those that run traces and
-- races too, with those that show what is and what stands, and with all its commands
abbrev pub reader : App
reader = with_subcommand (with_subcommand alone check.top) replay.top

abbrev pub runner : App
runner = with_subcommand (with_subcommand reader race.top) test.top

abbrev pub shower : App
shower = with_subcommand (with_subcommand runner show.top) state.top

abbrev pub heapguard : App
heapguard = with_subcommand shower help.top

-- the names of the commands
abbrev pub command_names : List Text
command_names = map (λ s. s.name) heapguard.subs
