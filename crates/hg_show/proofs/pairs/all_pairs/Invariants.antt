use Rattle.std.proofs.Common.{◌≡◌}
use Rattle.std.specs.List.{flat_map, range_with_len}
use Rattle.hg_show.specs.Json.{pair_objects}
use Rattle.hg_show.specs.Texts.{texts_in}
use Rattle.hg_show.proofs.pairs.all_pairs.Given as goal

-- the numbers so far are told
abbrev pub invariant-loop-owner : goal.invariant-loop-owner
invariant-loop-owner l = texts_in l.texts.items ≡ flat_map (pair_objects l.policy) (range_with_len 0 l.owner)
