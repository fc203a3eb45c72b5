-- The policy of no service.
use Rattle.std.specs.Prelude.{[]}
use Rattle.hg_machine.specs.Policy.{Policy}

abbrev pub no_policy : Policy
no_policy = record {
  workers = 0;
  max_generation = 0;
  tenants = [];
  arenas = [];
  segments = [];
  admitted = [];
  granted = [];
  forbidden = [];
}
