use Rattle.std.proofs.Common.{◌≡◌, map}
use Rattle.std.specs.List.{range_with_len}
use Rattle.hg_hints.specs.PolicyNames.{arena_at}
use Rattle.hg_hints.proofs.Numbered.{texts}
use Rattle.hg_hints.proofs.policy_names.arenas.Given as goal

-- the names so far
abbrev pub invariant-loop-arena : goal.invariant-loop-arena
invariant-loop-arena l = texts l.names.items ≡ map (arena_at l.policy) (range_with_len 0 l.arena)
