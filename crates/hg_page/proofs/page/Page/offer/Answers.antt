use Rattle.hg_page.proofs.Formatted.{fronted-all}
use Rattle.hg_page.proofs.page.Page.offer.Goals as goal

pub returns-clause-linked : goal.returns-clause-linked
returns-clause-linked c = (fronted-all c.args.self.now c.args.memory.now _ c.args.index _ _ c.requires.linked c.requires.below c.requires.unused c.requires.apart c.requires.room c.end_behind-self.ensures c.start.ensures c.set.ensures.words).linked

pub returns-clause-offered : goal.returns-clause-offered
returns-clause-offered c = rw c.if-worn.false (fronted-all c.args.self.now c.args.memory.now _ c.args.index _ _ c.requires.linked c.requires.below c.requires.unused c.requires.apart c.requires.room c.end_behind-self.ensures c.start.ensures c.set.ensures.words).shown
