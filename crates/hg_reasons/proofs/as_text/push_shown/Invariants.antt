use Rattle.std.proofs.Common.{◌≡◌, ◌++◌, map, take}
use Rattle.hg_reasons.specs.Shown.{shown}
use Rattle.hg_reasons.proofs.as_text.push_shown.Given as goal

-- the bytes so far are shown
abbrev pub invariant-loop-b : goal.invariant-loop-b
invariant-loop-b l = l.out.items ≡ l.fn.out.items ++ map shown (take l.b-index l.text)
