use Rattle.hg_page.proofs.Pushed.{worn-linked}
use Rattle.hg_page.proofs.page.Page.wear.Goals as goal

pub returns-clause-linked : goal.returns-clause-linked
returns-clause-linked c = rw c.end_use.ensures (worn-linked c.args.self.now c.args.memory.now c.args.index c.requires.linked c.requires.used)
