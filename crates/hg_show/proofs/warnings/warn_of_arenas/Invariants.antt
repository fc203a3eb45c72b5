use Rattle.std.proofs.Common.{◌≡◌, ◌++◌, map, take}
use Rattle.std.specs.List.{flat_map}
use Rattle.toml.specs.View.{view}
use Rattle.hg_show.specs.Rows.{names_in}
use Rattle.hg_show.specs.Texts.{texts_in}
use Rattle.hg_show.specs.Warnings.{arena_warnings}
use Rattle.hg_show.proofs.warnings.warn_of_arenas.Given as goal

-- the rows so far are told
abbrev pub invariant-loop-arena : goal.invariant-loop-arena
invariant-loop-arena l = texts_in l.texts.items ≡ texts_in l.fn.texts.items ++ flat_map (arena_warnings l.policy) (names_in (map view (take l.arena-index l.arenas)))
