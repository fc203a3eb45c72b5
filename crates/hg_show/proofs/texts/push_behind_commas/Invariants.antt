use Rattle.std.proofs.Common.{◌≡◌, ◌++◌, take}
use Rattle.std.specs.List.{flat_map}
use Rattle.hg_show.specs.Texts.{behind_comma, texts_in}
use Rattle.hg_show.proofs.texts.push_behind_commas.Given as goal

-- the texts so far are told
abbrev pub invariant-loop-text : goal.invariant-loop-text
invariant-loop-text l = l.out.items ≡ l.fn.out.items ++ flat_map behind_comma (texts_in (take l.text-index l.texts))
