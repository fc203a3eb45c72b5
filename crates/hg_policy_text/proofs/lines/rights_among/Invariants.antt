use Rattle.std.proofs.Common.{◌≡◌, map, drop}
use Rattle.toml.specs.View.{view}
use Rattle.hg_machine.specs.Policy.{no_rights}
use Rattle.hg_policy_text.specs.Faults.{in_turn}
use Rattle.hg_policy_text.specs.Lines.{with_right}
use Rattle.hg_policy.specs.Rights.{rights_of}
use Rattle.hg_policy_text.proofs.lines.rights_among.Given as goal

abbrev pub invariant-loop-word : goal.invariant-loop-word
invariant-loop-word l = in_turn with_right (rights_of l.rights) (map view (drop l.word-index l.word-items)) ≡ in_turn with_right no_rights (map view l.words.items)
