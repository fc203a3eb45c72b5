use Rattle.hg_page.proofs.Linked.{linked}
use Rattle.hg_page.proofs.Formatted.{retired_page, retired, retired-shown}
use Rattle.hg_page.proofs.page.Page.retire.Goals as goal

pub returns-clause-linked : goal.returns-clause-linked
returns-clause-linked c = rw c.clear.ensures (linked (retired_page c.args.self.now) c.args.memory.now _ _ (retired c.args.self.now c.args.memory.now c.requires.linked c.requires.idle))

pub returns-clause-retired : goal.returns-clause-retired
returns-clause-retired c = rw c.clear.ensures (retired-shown c.args.self.now c.args.memory.now)
