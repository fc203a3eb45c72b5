use Rattle.std.proofs.Common.{◌≡◌, ◌++◌, take}
use Rattle.std.specs.List.{flat_map}
use Rattle.hg_reasons.specs.Counts.{kind_row}
use Rattle.hg_reasons.proofs.counts.push_kinds.Given as goal

-- the kinds so far are told
abbrev pub invariant-loop-kind : goal.invariant-loop-kind
invariant-loop-kind l = l.out.items ≡ l.fn.out.items ++ flat_map (kind_row l.form l.lines) (take l.kind-index l.kinds)
