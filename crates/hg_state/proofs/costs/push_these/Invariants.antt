use Rattle.std.proofs.Common.{◌≡◌, ◌++◌, take}
use Rattle.std.specs.List.{flat_map}
use Rattle.hg_state.specs.Costs.{class_text}
use Rattle.hg_state.proofs.costs.push_these.Given as goal

-- the classes so far are told
abbrev pub invariant-loop-class : goal.invariant-loop-class
invariant-loop-class l = l.out.items ≡ l.fn.out.items ++ flat_map (class_text l.form l.word l.blocks) (take l.class-index l.classes)
