use Rattle.hg_segment.proofs.FirstBegins.{AreLeft}
use Rattle.hg_segment.proofs.segment.Segment.first_begin.Given as goal

abbrev pub invariant-loop-turn : goal.invariant-loop-turn
invariant-loop-turn g l = AreLeft g.S.SlotWords.records l.self l.fn.class l.begins l._turn
