use Rattle.std.proofs.Common.{◌≡◌, ◌++◌, map, take}
use Rattle.std.specs.List.{flat_map}
use Rattle.toml.specs.View.{view}
use Rattle.hg_show.specs.Rows.{names_in}
use Rattle.hg_show.specs.Parts.{arena_word}
use Rattle.hg_show.proofs.parts.push_arena_words.Given as goal

-- the rows so far are told
abbrev pub invariant-loop-arena : goal.invariant-loop-arena
invariant-loop-arena l = l.out.items ≡ l.fn.out.items ++ flat_map (arena_word l.policy l.tenant) (names_in (map view (take l.arena-index l.arenas)))
