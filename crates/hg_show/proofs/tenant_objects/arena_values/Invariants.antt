use Rattle.std.proofs.Common.{◌≡◌, map, take}
use Rattle.std.specs.List.{flat_map}
use Rattle.toml.specs.View.{view}
use Rattle.hg_show.specs.Rows.{names_in}
use Rattle.hg_show.specs.Texts.{texts_in}
use Rattle.hg_show.specs.Json.{arena_value}
use Rattle.hg_show.proofs.tenant_objects.arena_values.Given as goal

-- the rows so far are told
abbrev pub invariant-loop-arena : goal.invariant-loop-arena
invariant-loop-arena l = texts_in l.values.items ≡ flat_map (arena_value l.policy l.tenant) (names_in (map view (take l.arena-index l.arenas)))
