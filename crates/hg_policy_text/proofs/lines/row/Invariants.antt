use Rattle.std.proofs.Common.{◌≡◌, ◌<◌, ℕ, length, map, take, get_or}
use Rattle.std.specs.List.{list_any}
use Rattle.hg_place.specs.declared.Right.{Right}
use Rattle.hg_machine.specs.Policy.{has_right}
use Rattle.hg_policy_text.specs.ReadTables.{line_of}
use Rattle.hg_policy_text.specs.Lines.{names_right}
use Rattle.hg_policy.specs.Rights.{rights_of, nothing}
use Rattle.hg_policy_text.proofs.lines.row.Given as goal

abbrev pub invariant-loop-line : goal.invariant-loop-line
invariant-loop-line l = record {
  long : length l.held ≡ 64;
  named : (actor : ℕ) (r : Right) → actor < l.tenants → has_right (rights_of (get_or l.held actor nothing)) r ≡ list_any (names_right l.owner actor r) (map (line_of l.tenants) (take l.line-index l.lines));
}
