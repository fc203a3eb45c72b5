use Rattle.std.proofs.Common.{◌≡◌, map, take}
use Rattle.toml.specs.View.{view}
use Rattle.hg_show.specs.Rows.{names_in}
use Rattle.hg_show.specs.Texts.{texts_in}
use Rattle.hg_show.specs.Json.{arena_object}
use Rattle.hg_show.proofs.arena_objects.arena_objects.Given as goal

-- the rows so far are told
abbrev pub invariant-loop-arena : goal.invariant-loop-arena
invariant-loop-arena l = texts_in l.texts.items ≡ map (arena_object l.policy) (names_in (map view (take l.arena-index l.arenas)))
