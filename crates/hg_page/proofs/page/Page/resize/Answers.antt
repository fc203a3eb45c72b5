use Rattle.hg_page.proofs.Linked.{linked}
use Rattle.hg_page.proofs.Formatted.{empty_page, emptied, emptied-shown}
use Rattle.hg_page.proofs.page.Page.resize.Goals as goal

pub returns-clause-linked : goal.returns-clause-linked
returns-clause-linked c = rw (c.clear.ensures, c.no_flags-self.ensures.unset) (linked (empty_page c.args.self.now c.args.size c.args.places) c.args.memory.now _ _ (emptied c.args.self.now c.args.memory.now c.args.size c.args.places c.requires.linked c.requires.sized c.requires.inside c.requires.within c.requires.count))

pub returns-clause-emptied : goal.returns-clause-emptied
returns-clause-emptied c = rw (c.clear.ensures, c.no_flags-self.ensures.unset) (emptied-shown c.args.self.now c.args.memory.now c.args.size c.args.places)
