use Rattle.std.proofs.Common.{◌≡◌}
use Rattle.toml.specs.View.{table_view}
use Rattle.hg_policy_text.specs.Values.{first_unknown}
use Rattle.hg_policy_text.proofs.Unknown.{unknown_in}
use Rattle.hg_policy_text.proofs.values.known.Given as goal

abbrev pub invariant-loop-key : goal.invariant-loop-key
invariant-loop-key l = unknown_in l.level l.key-iterator ≡ first_unknown l.level (table_view l.table)
