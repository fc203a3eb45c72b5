use Rattle.std.proofs.Common.{◌≡◌, [], map, drop}
use Rattle.toml.specs.View.{table_view, view}
use Rattle.hg_policy_text.specs.Faults.{in_turn}
use Rattle.hg_policy_text.specs.Values.{with_table}
use Rattle.hg_policy_text.proofs.values.tables_in.Given as goal

abbrev pub invariant-loop-element : goal.invariant-loop-element
invariant-loop-element l = in_turn (with_table l.key) (map (λ entry. table_view entry.now) l.tables.items) (map view (drop l.element-index l.element-items)) ≡ in_turn (with_table l.key) [] (map view l.array.items)
