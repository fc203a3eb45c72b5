use Rattle.std.proofs.Common.{◌≡◌, ◌++◌, map, take}
use Rattle.std.specs.List.{flat_map}
use Rattle.toml.specs.View.{view}
use Rattle.hg_show.specs.Texts.{texts_in}
use Rattle.hg_show.specs.Warnings.{group_warnings}
use Rattle.hg_show.proofs.groups.warn_of_groups.Given as goal

-- the rows so far are told
abbrev pub invariant-loop-group : goal.invariant-loop-group
invariant-loop-group l = texts_in l.texts.items ≡ texts_in l.fn.texts.items ++ flat_map (group_warnings (map view l.grants) (map view l.denies)) (map view (take l.group-index l.groups))
