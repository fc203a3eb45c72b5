use Rattle.hg_page.proofs.Formatted.{Formatting}
use Rattle.hg_page.proofs.page.Page.format.Given as goal

abbrev pub invariant-loop-index : goal.invariant-loop-index
invariant-loop-index l = Formatting l.worn l.index l.initial.self l.self l.initial.memory l.memory
