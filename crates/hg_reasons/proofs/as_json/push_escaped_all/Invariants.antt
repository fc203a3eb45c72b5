use Rattle.std.proofs.Common.{◌≡◌, ◌++◌, take}
use Rattle.std.specs.List.{flat_map}
use Rattle.hg_reasons.specs.AsJson.{escaped}
use Rattle.hg_reasons.proofs.as_json.push_escaped_all.Given as goal

-- the bytes so far are told
abbrev pub invariant-loop-b : goal.invariant-loop-b
invariant-loop-b l = l.out.items ≡ l.fn.out.items ++ flat_map escaped (take l.b-index l.text)
