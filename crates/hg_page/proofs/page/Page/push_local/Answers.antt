use Rattle.hg_page.proofs.Pushed.{pushed-all}
use Rattle.hg_page.proofs.page.Page.push_local.Goals as goal

pub returns-clause-linked : goal.returns-clause-linked
returns-clause-linked c = rw c.end_use.ensures (pushed-all c.args.self.now c.args.memory.now _ _ _ _ c.requires.linked c.requires.used c.end_behind-self.ensures c.start.ensures c.set.ensures.words).linked

pub returns-clause-pushed : goal.returns-clause-pushed
returns-clause-pushed c = rw c.end_use.ensures (pushed-all c.args.self.now c.args.memory.now _ _ _ _ c.requires.linked c.requires.used c.end_behind-self.ensures c.start.ensures c.set.ensures.words).shown

pub returns-clause-others : goal.returns-clause-others
returns-clause-others c = rw c.end_use.ensures (pushed-all c.args.self.now c.args.memory.now _ _ _ _ c.requires.linked c.requires.used c.end_behind-self.ensures c.start.ensures c.set.ensures.words).others
