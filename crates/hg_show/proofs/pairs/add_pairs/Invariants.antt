use Rattle.std.proofs.Common.{◌≡◌, ◌++◌, map}
use Rattle.std.specs.List.{range_with_len}
use Rattle.hg_show.specs.Json.{pair_object}
use Rattle.hg_show.specs.Texts.{texts_in}
use Rattle.hg_show.proofs.pairs.add_pairs.Given as goal

-- the numbers so far are told
abbrev pub invariant-loop-actor : goal.invariant-loop-actor
invariant-loop-actor l = texts_in l.texts.items ≡ texts_in l.fn.texts.items ++ map (pair_object l.policy l.owner) (range_with_len 0 l.actor)
