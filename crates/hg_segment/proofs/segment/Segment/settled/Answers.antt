use Rattle.std.proofs.Common.{◌∙◌}
use Rattle.std.proofs.lemmas.List.{length-map}
use Rattle.hg_segment.proofs.Settled.{block_length, lists, size_listed, open_placed, listed_placed, words_all}
use Rattle.hg_segment.proofs.segment.Segment.settled.Goals as goal

pub returns-clause-lists : goal.returns-clause-lists
returns-clause-lists g c = rw (← c.self.view_is) (lists _ _ _ _ _ _ c.self.invariant)

pub returns-clause-sizes : goal.returns-clause-sizes
returns-clause-sizes g c = rw (← c.self.view_is) (size_listed _ _ _ _ _ _ c.self.invariant)

pub returns-clause-open : goal.returns-clause-open
returns-clause-open g c = rw (← c.self.view_is) (open_placed _ _ _ _ _ _ c.self.invariant)

pub returns-clause-all : goal.returns-clause-all
returns-clause-all g c = let i = c.self.invariant in rw (← c.self.view_is) (length-map _ _ ∙ i.pages_all, i.classes_all, words_all _ _ _ _ _ _ i)

pub returns-clause-listed : goal.returns-clause-listed
returns-clause-listed g c = rw (← c.self.view_is) (listed_placed _ _ _ _ _ _ c.self.invariant)

pub returns-clause-blocks : goal.returns-clause-blocks
returns-clause-blocks g c = rw (← c.self.view_is) (block_length _ _ _ _ _ _ c.self.invariant)

pub returns-clause-runs : goal.returns-clause-runs
returns-clause-runs g c = rw (← c.self.view_is) c.self.invariant.runs
