use Rattle.std.proofs.Common.{◌≡◌, map, take}
use Rattle.hg_show.specs.Json.{quoted}
use Rattle.hg_show.specs.Texts.{texts_in}
use Rattle.hg_show.proofs.json.each_quoted.Given as goal

-- the texts so far are told
abbrev pub invariant-loop-text : goal.invariant-loop-text
invariant-loop-text l = texts_in l.values.items ≡ map quoted (texts_in (take l.text-index l.texts))
