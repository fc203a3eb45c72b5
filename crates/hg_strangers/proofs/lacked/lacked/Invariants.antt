use Rattle.std.proofs.Common.{◌≡◌, map, take}
use Rattle.hg_trace.specs.Stored.{lines_in}
use Rattle.hg_strangers.specs.Mentions.{lacked, seen}
use Rattle.hg_strangers.proofs.lacked.lacked.Given as goal

-- what the lines so far say and the policy lacks
abbrev pub invariant-loop-line : goal.invariant-loop-line
invariant-loop-line l = map seen l.mentions.items ≡ lacked l.policy (take l.line-index (lines_in l.trace))
