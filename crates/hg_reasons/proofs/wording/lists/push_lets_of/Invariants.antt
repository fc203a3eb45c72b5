use Rattle.std.proofs.Common.{◌≡◌, ◌++◌, drop, true}
use Rattle.hg_reasons.specs.Wording.{rights_from}
use Rattle.hg_reasons.proofs.wording.lists.push_lets_of.Given as goal

-- what is left goes behind the rights so far
abbrev pub invariant-loop-right : goal.invariant-loop-right
invariant-loop-right l =
    l.out.items ++ rights_from l.policy l.owner l.actor l.first (drop l.right-index l.rights)
    ≡ l.fn.out.items ++ rights_from l.policy l.owner l.actor true l.rights
