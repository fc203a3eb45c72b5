-- What stands for a state that nobody has, and for a call that nobody makes.
use Rattle.std.specs.Prelude.{[]}
use Rattle.hg_machine.specs.declared.Answer.TheVariants as answer
use Rattle.hg_machine.specs.declared.Event.TheVariants as event
use Rattle.hg_machine.specs.Policy.{Policy}
use Rattle.hg_machine.specs.State.{State, opening}
use Rattle.hg_roles.specs.Roles.{Call}

-- nobody, nothing and nowhere
abbrev pub unused_policy : Policy
unused_policy = record {
  workers = 0;
  max_generation = 0;
  tenants = [];
  arenas = [];
  segments = [];
  admitted = [];
  granted = [];
  forbidden = [];
}

abbrev pub unused_state : State
unused_state = opening unused_policy

abbrev pub unused_call : Call
unused_call = (event.Collect, answer.Done)
