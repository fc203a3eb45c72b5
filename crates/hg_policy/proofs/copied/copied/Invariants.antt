use Rattle.std.proofs.Common.{◌≡◌, ◌++◌}
use Rattle.hg_policy.specs.Copied.{by_text}
use Rattle.hg_policy.proofs.copied.copied.Given as goal

-- what is copied, and then what is left
abbrev pub invariant-loop-name : goal.invariant-loop-name
invariant-loop-name g l = by_text l.copy.entries ++ by_text l.name-iterator ≡ by_text l.named.entries
