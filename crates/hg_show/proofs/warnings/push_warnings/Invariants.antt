use Rattle.std.proofs.Common.{◌≡◌, ◌++◌, take}
use Rattle.hg_show.specs.Texts.{texts_in}
use Rattle.hg_show.specs.Warnings.{warning_lines}
use Rattle.hg_show.proofs.warnings.push_warnings.Given as goal

-- the texts so far are told
abbrev pub invariant-loop-text : goal.invariant-loop-text
invariant-loop-text l = l.out.items ≡ l.fn.out.items ++ warning_lines (texts_in (take l.text-index l.texts))
