use Rattle.hg_policy_text.proofs.LineTable.{AddedTo}
use Rattle.hg_policy_text.proofs.lines.add.Given as goal

abbrev pub invariant-loop-actor : goal.invariant-loop-actor
invariant-loop-actor l = AddedTo l.actor l.fn.held l.held l.to l.rights
